-- Lists that the code makes of the motions of a line.
use Rattle.std.proofs.Common.{◌≡◌, List, [], ◌∷◌, ◌++◌, map, refl, sym, ap, ◌∙◌}
use Rattle.symmetry.specs.Motions.{Motion}
use Rattle.plane_motions.specs.PlaneMotions.{plane_block, plane_of}
use Rattle.plane_motions.specs.declared.plane_motion.Motion2.{Motion2}

last_more : {A B : Type 0} (f : A → B) (xs : List A) (x : A) → map f (xs ++ x ∷ []) ≡ map f xs ++ f x ∷ []
last_more f [] x = refl
last_more f (y ∷ xs) x = ap (λ l. f y ∷ l) (last_more f xs x)

pub pairs_more : (ms ms' : List Motion) (m : Motion) (ps ps' : List Motion2) (p : Motion2) → ms' ≡ ms ++ m ∷ [] → ps' ≡ ps ++ p ∷ []
    → ms ≡ map plane_block (map plane_of ps) → m ≡ plane_block (plane_of p) → ms' ≡ map plane_block (map plane_of ps')
pairs_more ms ms' m ps ps' p e e' same is =
    e ∙ (λ i. same i ++ is i ∷ []) ∙ sym (last_more plane_block (map plane_of ps) (plane_of p)) ∙ ap (map plane_block) (sym (last_more plane_of ps p))
    ∙ ap (λ l. map plane_block (map plane_of l)) (sym e')
