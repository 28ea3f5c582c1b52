-- Lists to which what is new is added.
use Rattle.std.specs.Prelude.{◌≡◌, ◌⊎◌, List, [], ◌∷◌, ◌++◌, Any}

-- the same list, with x behind it where it was not listed
abbrev pub IsWith : {A : Type 0} → List A → A → List A → Type 0
IsWith xs x ys = (Any (λ y. x ≡ y) xs × (ys ≡ xs)) ⊎ (¬ Any (λ y. x ≡ y) xs × (ys ≡ xs ++ x ∷ []))
