-- Lists of motions that are no translations, each brought home.
use Rattle.std.proofs.Common.{◌≡◌, ℕ, zero, suc, ◌+◌, ◌<◌, inl, inr, arith, sym, ap, subst, ◌∙◌, List, [], ◌∷◌, ◌++◌, length, get_or, map, take}
use Rattle.std.specs.Prelude.{AllPairs, Contains}
use Rattle.std.proofs.lemmas.List.{map_more, map-append}
use Rattle.std.proofs.lemmas.List.Elements.{Contains-append_left, Contains-push, Contains-push_cases}
use Rattle.symmetry.specs.Vectors.{unit_matrix}
use Rattle.symmetry.specs.Motions.{Motion}
use Rattle.quotient.proofs.ListLaws.{AllPairs-append}
use Rattle.motions.specs.declared.motion.Motion3.{Motion3}
use Rattle.motions.specs.Views.{motion_of}
use Rattle.closure.specs.declared.lattice.Lattice.{Lattice}
use Rattle.closure.specs.Lattices.{IsHome}
use Rattle.closure.specs.Derived.{AreOthersAtHome, IsOtherAtHome}
use Rattle.closure.proofs.Taken.{taken_before}

only_one : (m y : Motion) → Contains (m ∷ []) y → m ≡ y
only_one m y (zero, within, is) = is
only_one m y (suc k, within, is) = absurd (omega arith)

module _ (lattice : Lattice) (done others : List Motion) (m : Motion) (H : AreOthersAtHome lattice done others) where
  further_of : (n : Motion) → IsOtherAtHome lattice done n → IsOtherAtHome lattice (done ++ m ∷ []) n
  further_of n e = record { of = e.of; listed = Contains-append_left done (m ∷ []) e.of e.listed; other = e.other; matrix = e.matrix; home = e.home }

  -- one that is no translation
  home_more : (n : Motion) → ¬ (m.matrix ≡ unit_matrix) → n.matrix ≡ m.matrix → IsHome lattice m.translation n.translation
      → ((y : Motion) → Contains done y → ¬ (y.matrix ≡ m.matrix)) → AreOthersAtHome lattice (done ++ m ∷ []) (others ++ n ∷ [])
  home_more n other matrix home new_matrix = record {
    each = λ k is. elim (Contains-push_cases others n k is) [
      | inl old ↦ further_of k (H.each k old)
      | inr e ↦ subst (IsOtherAtHome lattice (done ++ m ∷ [])) e
          (record { of = m; listed = Contains-push done m; other = other; matrix = matrix; home = home })
    ];
    all = λ k is no. elim (Contains-push_cases done m k is) [
      | inl old ↦ let (x, stands, e) = H.all k old no in (x, Contains-append_left others (n ∷ []) x stands, e)
      | inr e ↦ (n, Contains-push others n, matrix ∙ ap (λ (k : Motion). k.matrix) e)
    ];
    once = AllPairs-append (λ m n. ¬ (m.matrix ≡ n.matrix)) others (n ∷ []) H.once (λ i j d less within. absurd (omega arith))
        (λ x y hx hy e.
        let a = H.each x hx in
        new_matrix a.of a.listed (sym a.matrix ∙ e ∙ ap (λ (k : Motion). k.matrix) (sym (only_one n y hy)) ∙ matrix));
  }

  -- a translation
  home_pass : m.matrix ≡ unit_matrix → AreOthersAtHome lattice (done ++ m ∷ []) others
  home_pass unit = record {
    each = λ k is. further_of k (H.each k is);
    all = λ k is no. elim (Contains-push_cases done m k is) [
      | inl old ↦ H.all k old no
      | inr e ↦ absurd (no (ap (λ (k : Motion). k.matrix) (sym e) ∙ unit))
    ];
    once = H.once;
  }

-- a turn of the loop
module _ (lattice : Lattice) (list : List Motion3) (i : ℕ) (d : Motion3) (here : i < length list) (others : List Motion3)
    (H : AreOthersAtHome lattice (map motion_of (take i list)) (map motion_of others)) where
  longer : map motion_of (take (i + 1) list) ≡ map motion_of (take i list) ++ motion_of (get_or list i d) ∷ []
  longer = map_more motion_of list i d here

  pub homes_turn : AllPairs (λ m n. ¬ (m.matrix ≡ n.matrix)) (map motion_of list) → (n : Motion3) → ¬ ((motion_of (get_or list i d)).matrix ≡ unit_matrix)
      → (motion_of n).matrix ≡ (motion_of (get_or list i d)).matrix → IsHome lattice (motion_of (get_or list i d)).translation (motion_of n).translation
      → (new : List Motion3) → new ≡ others ++ n ∷ [] → AreOthersAtHome lattice (map motion_of (take (i + 1) list)) (map motion_of new)
  homes_turn once n other matrix home new pushed =
      let more = home_more lattice (map motion_of (take i list)) (map motion_of others) (motion_of (get_or list i d)) H (motion_of n) other matrix home
      (taken_before motion_of list i (λ m n. ¬ (m.matrix ≡ n.matrix)) d once here) in
      subst (AreOthersAtHome lattice (map motion_of (take (i + 1) list))) (sym (ap (map motion_of) pushed ∙ map-append motion_of others (n ∷ [])))
      (subst (λ l. AreOthersAtHome lattice l (map motion_of others ++ motion_of n ∷ [])) (sym longer) more)

  pub homes_pass : (motion_of (get_or list i d)).matrix ≡ unit_matrix → AreOthersAtHome lattice (map motion_of (take (i + 1) list)) (map motion_of others)
  homes_pass unit =
      subst (λ l. AreOthersAtHome lattice l (map motion_of others)) (sym longer)
      (home_pass lattice (map motion_of (take i list)) (map motion_of others) (motion_of (get_or list i d)) H unit)
