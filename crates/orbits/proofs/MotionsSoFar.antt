-- What operations do to the planes, each motion of the planes once.
use Rattle.std.proofs.Common.{◌≡◌, ℕ, ◌+◌, ◌<◌, ◌≤◌, ℤ, pos, ◌≤ℤ◌, ◌<ℤ◌, List, [], ◌∷◌, ◌++◌, length, get_or, map, take, All, Any, Contains, inl, inr, sym, ap, subst, ◌∙◌, arith}
use Rattle.std.specs.Prelude.{Some}
use Rattle.std.proofs.lemmas.List.{length-map, map-append, take_all}
use Rattle.std.proofs.lemmas.List.Elements.{All-nil, All-push, All-weaker, Contains-append_left, Contains-get_or, Contains-push, Contains-push_cases}
use Rattle.std.proofs.lemmas.List.Quantifiers.{Any-push, all_pairs_push}
use Rattle.quotient.proofs.Firsts.{Any-append_left, Any-from_Contains}
use Rattle.symmetry.specs.Vectors.{Vector, multiple, row_times}
use Rattle.symmetry.specs.Motions.{Motion}
use Rattle.symmetry.specs.Groups.{Listing}
use Rattle.symmetry.specs.Planes.{IsCoprime}
use Rattle.symmetry.specs.Frames.{KeepsOrientation}
use Rattle.symmetry.proofs.Coprime.{not_opposite}
use Rattle.symmetry.proofs.VectorLaws.{multiple-one}
use Rattle.motions.specs.Signs.{sign_value}
use Rattle.motions.specs.Views.{motion_of}
use Rattle.motions.specs.declared.motion.Motion3.{Motion3}
use Rattle.motions.specs.Laws.SignLaws.{sign_is_sign}
use Rattle.orbits.specs.HeightMotionView.{height_motion_of, IsChosen}
use Rattle.orbits.specs.declared.height_motion.HeightMotion.{HeightMotion as CodedMotion}
use Rattle.orbits.proofs.RowLists.{motions_more}
use Rattle.symmetry.specs.HeightMotions.{AreHeightMotions, HeightMotion, IsSign, MovesPlanes}

-- those of the motions of a list
abbrev pub AreMotionsOf : Vector → ℤ → List Motion → List HeightMotion → Type 0
AreMotionsOf r d ms hs = AreHeightMotions (record { ops = ms; centrings = [] }) r d hs

module _ (r : Vector) (d : ℤ) where
  pub no_motions : (hs : List HeightMotion) → hs ≡ [] → AreMotionsOf r d [] hs
  no_motions hs e = subst (AreMotionsOf r d []) (sym e) (record {
    signs = All-nil (λ (h : HeightMotion). IsSign h.sign);
    from = All-nil (λ (h : HeightMotion). pos 0 ≤ℤ h.shift);
    below = All-nil (λ (h : HeightMotion). h.shift <ℤ d);
    listed = All-nil (λ h. (m : Motion) × Contains [] m × MovesPlanes r d m h);
    apart = λ i j k less within. absurd (omega (arith, within));
    every = λ m e (k, within, is). absurd (omega (arith, within));
  })

  module _ (ms : List Motion) (m : Motion) (hs : List HeightMotion) (so_far : AreMotionsOf r d ms hs) where
    listed_on : All (λ h. (n : Motion) × Contains (ms ++ m ∷ []) n × MovesPlanes r d n h) hs
    listed_on =
        All-weaker (λ h. (n : Motion) × Contains ms n × MovesPlanes r d n h) (λ h. (n : Motion) × Contains (ms ++ m ∷ []) n × MovesPlanes r d n h)
        (λ h (n, is, moves). (n, Contains-append_left ms (m ∷ []) n is, moves)) hs so_far.listed

    abbrev DoesSo : ℤ → Motion → HeightMotion → Type 0
    DoesSo e n h = (h.sign ≡ e) × MovesPlanes r d n h

    -- an operation that does not keep the orientation
    pub passed_over : ((e : ℤ) → IsSign e → ¬ (row_times r m.matrix ≡ multiple e r)) → AreMotionsOf r d (ms ++ m ∷ []) hs
    passed_over not = record {
      signs = so_far.signs;
      from = so_far.from;
      below = so_far.below;
      listed = listed_on;
      apart = so_far.apart;
      every = λ n e is sign row. elim (Contains-push_cases ms m n is) [
        | inl old ↦ so_far.every n e old sign row
        | inr p ↦ absurd (not e sign (subst (λ (n : Motion). row_times r n.matrix ≡ multiple e r) (sym p) row))
      ];
    }

    module _ (h : HeightMotion) (moves : MovesPlanes r d m h) (only : (e : ℤ) → IsSign e → row_times r m.matrix ≡ multiple e r → h.sign ≡ e) where
      -- one that does what an earlier one does
      pub done_before : Any (λ k. h ≡ k) hs → AreMotionsOf r d (ms ++ m ∷ []) hs
      done_before (k, x, within, stands, same) = record {
        signs = so_far.signs;
        from = so_far.from;
        below = so_far.below;
        listed = listed_on;
        apart = so_far.apart;
        every = λ n e is sign row. elim (Contains-push_cases ms m n is) [
          | inl old ↦ so_far.every n e old sign row
          | inr p ↦ subst (λ n. Any (DoesSo e n) hs) p
              (k, x, within, stands, subst (DoesSo e m) same (only e sign (subst (λ (n : Motion). row_times r n.matrix ≡ multiple e r) (sym p) row), moves))
        ];
      }

      -- one that does something new
      pub done_first : IsSign h.sign → pos 0 ≤ℤ h.shift → h.shift <ℤ d → ¬ Any (λ k. h ≡ k) hs → AreMotionsOf r d (ms ++ m ∷ []) (hs ++ h ∷ [])
      done_first sign from below new = record {
        signs = All-push (λ (h : HeightMotion). IsSign h.sign) hs h so_far.signs sign;
        from = All-push (λ (h : HeightMotion). pos 0 ≤ℤ h.shift) hs h so_far.from from;
        below = All-push (λ (h : HeightMotion). h.shift <ℤ d) hs h so_far.below below;
        listed = All-push (λ h. (n : Motion) × Contains (ms ++ m ∷ []) n × MovesPlanes r d n h) hs h listed_on (m, Contains-push ms m, moves);
        apart = all_pairs_push (λ (h k : HeightMotion). ¬ (h ≡ k)) hs h so_far.apart (λ k e within same. new (Any-from_Contains (λ k. h ≡ k) hs (get_or hs k e) (Contains-get_or hs k e within) (sym same)));
        every = λ n e is sign' row. elim (Contains-push_cases ms m n is) [
          | inl old ↦ Any-append_left (DoesSo e n) hs (h ∷ []) (so_far.every n e old sign' row)
          | inr p ↦ subst (λ n. Any (DoesSo e n) (hs ++ h ∷ [])) p
              (Any-push (DoesSo e m) hs h (only e sign' (subst (λ (n : Motion). row_times r n.matrix ≡ multiple e r) (sym p) row), moves))
        ];
      }

-- ---- signs

-- an operation that does not keep the orientation has no sign
pub no_sign : (r : Vector) (m : Motion) → ¬ KeepsOrientation r m → (e : ℤ) → IsSign e → ¬ (row_times r m.matrix ≡ multiple e r)
no_sign r m not e (inl p) row = not (inl (row ∙ ap (λ x. multiple x r) p ∙ multiple-one r))
no_sign r m not e (inr p) row = not (inr (row ∙ ap (λ x. multiple x r) p))

-- and one has one sign
pub one_sign : (r : Vector) → IsCoprime r → (v : Vector) (e f : ℤ) → IsSign e → IsSign f → v ≡ multiple e r → v ≡ multiple f r → e ≡ f
one_sign r coprime v e f (inl p) (inl q) _ _ = p ∙ sym q
one_sign r coprime v e f (inr p) (inr q) _ _ = p ∙ sym q
one_sign r coprime v e f (inl p) (inr q) k l =
    absurd (not_opposite r coprime (sym (multiple-one r) ∙ ap (λ x. multiple x r) (sym p) ∙ sym k ∙ l ∙ ap (λ x. multiple x r) q))
one_sign r coprime v e f (inr p) (inl q) k l =
    absurd (not_opposite r coprime (sym (multiple-one r) ∙ ap (λ x. multiple x r) (sym q) ∙ sym l ∙ k ∙ ap (λ x. multiple x r) p))

-- ---- the operations of the code, up to one more

module _ (r : Vector) (d : ℤ) (coprime : IsCoprime r) (ops : List Motion3) (i : ℕ) (x : Motion3) (within : i < length ops) (motions more : List CodedMotion)
    (so_far : AreMotionsOf r d (take i (map motion_of ops)) (map height_motion_of motions)) where
  abbrev m : Motion
  m = motion_of (get_or ops i x)

  abbrev ms : List Motion
  ms = take i (map motion_of ops)

  to_more : (hs : List HeightMotion) → AreMotionsOf r d (ms ++ m ∷ []) hs → AreMotionsOf r d (take (i + 1) (map motion_of ops)) hs
  to_more hs = subst (λ l. AreMotionsOf r d l hs) (sym (motions_more ops i x within))

  pub over : more ≡ motions → ¬ KeepsOrientation r m → AreMotionsOf r d (take (i + 1) (map motion_of ops)) (map height_motion_of more)
  over e not =
      to_more (map height_motion_of more)
      (subst (λ l. AreMotionsOf r d (ms ++ m ∷ []) (map height_motion_of l)) (sym e) (passed_over r d ms m (map height_motion_of motions) so_far (no_sign r m not)))

  module _ (h : CodedMotion) (chosen : IsChosen r d m (Some h)) where
    only : (e : ℤ) → IsSign e → row_times r m.matrix ≡ multiple e r → sign_value h.sign ≡ e
    only e sign row = one_sign r coprime (row_times r m.matrix) (sign_value h.sign) e (sign_is_sign h.sign) sign chosen.0.row row

    pub again : more ≡ motions → Any (λ k. height_motion_of h ≡ k) (map height_motion_of motions)
        → AreMotionsOf r d (take (i + 1) (map motion_of ops)) (map height_motion_of more)
    again e known =
        to_more (map height_motion_of more)
        (subst (λ l. AreMotionsOf r d (ms ++ m ∷ []) (map height_motion_of l)) (sym e)
        (done_before r d ms m (map height_motion_of motions) so_far (height_motion_of h) chosen.0 only known))

    pub first : more ≡ motions ++ h ∷ [] → ¬ Any (λ k. height_motion_of h ≡ k) (map height_motion_of motions)
        → AreMotionsOf r d (take (i + 1) (map motion_of ops)) (map height_motion_of more)
    first e new =
        to_more (map height_motion_of more)
        (subst (AreMotionsOf r d (ms ++ m ∷ [])) (sym (ap (map height_motion_of) e ∙ map-append height_motion_of motions (h ∷ [])))
        (done_first r d ms m (map height_motion_of motions) so_far (height_motion_of h) chosen.0 only (sign_is_sign h.sign) chosen.1 chosen.2 new))

-- ---- all operations

pub all_motions : (g : Listing) (r : Vector) (d : ℤ) (ops : List Motion3) (i : ℕ) (hs : List HeightMotion) → map motion_of ops ≡ g.ops → length ops ≤ i
    → AreMotionsOf r d (take i (map motion_of ops)) hs → AreHeightMotions g r d hs
all_motions g r d ops i hs e whole are =
    let all = subst (λ l. AreMotionsOf r d l hs) (take_all i (map motion_of ops) (omega (arith, whole, length-map ops motion_of)) ∙ e) are in record {
      signs = all.signs;
      from = all.from;
      below = all.below;
      listed = all.listed;
      apart = all.apart;
      every = all.every;
    }
