-- The sections of a list of the line stabiliser are a group modulo the axis, each once.
use lib.IntN.{*ℤ_comm}
use Rattle.std.proofs.Common.{◌≡◌, ◌<◌, ℤ, pos, negsuc, ◌+ℤ◌, ◌*ℤ◌, refl, sym, ◌∙◌, ap, subst, arith, List, [], ◌∷◌, length, slice_index_or, AllPairs}
use Rattle.std.specs.Prelude.{Contains}
use Rattle.std.proofs.lemmas.Int.{ints}
use Rattle.std.proofs.lemmas.List.{get_or_default}
use Rattle.fractions.specs.declared.part.TheConstants.{UNIT}
use Rattle.integers.proofs.Order.{one-le-mul}
use Rattle.integers.proofs.Solver.{Expr.{var, num, neg, ◌⊕◌, ◌⊗◌}, ring, linear, given}
use Rattle.symmetry.specs.Vectors.{Vector, origin, plus, minus, multiple, image, unit_matrix}
use Rattle.symmetry.specs.Motions.{Motion, Point, moved, followed_by, identity}
use Rattle.symmetry.specs.Planes.{IsCoprime}
use Rattle.symmetry.specs.Groups.{Listing, IsMember, IsGroup}
use Rattle.symmetry.specs.Frames.{Basis}
use Rattle.symmetry.specs.Lists.{motion_at}
use Rattle.symmetry.proofs.VectorLaws.{vector_path, multiple-multiple, multiple-one}
use Rattle.symmetry.proofs.MatrixLaws.{image-multiple, image-product, image-unit}
use Rattle.symmetry.proofs.Signs.{sign_twice}
use Rattle.quotient.specs.Kind.{Kind, IsSame}
use Rattle.quotient.specs.Lists.{IsListed}
use Rattle.quotient.specs.Groups as groups
use Rattle.motions.specs.Signs.{sign_value}
use Rattle.motions.specs.RodMotions.{RodOperation, rod_followed_by, rod_identity}
use Rattle.motions.specs.Laws.SignLaws.{sign_is_sign}
use Rattle.line_types.specs.Lines.{modulo_lattice}
use Rattle.line_types.specs.Laws.LineLaws.{keeps}
use Rattle.line_types.specs.Laws.RodLaws.{rod_line_laws}
use Rattle.line_types.specs.Rods.{rod_line}
use Rattle.recognition.specs.RationalRods.{rational_rod}
use Rattle.recognition.proofs.RodTypeLemma.{same_rod, moved_same}
use Rattle.penetration.specs.Lines.{IsOnLine, InLineStabiliser}
use Rattle.penetration.specs.RodFrames.{IsRodFrame, AreRodOperations, DiffersAlong, levelled}
use Rattle.penetration.specs.RodSections.{ActsAs, SameRod, ListsAlong, AreSections, counted, drift, rod_at}
use Rattle.penetration.proofs.DirectionSigns.{multiple_turned}
use Rattle.penetration.proofs.LineImages.{multiple_cancel_pos, stabiliser_by_direction}
use Rattle.penetration.proofs.RodActions.{shift_is, acts, acts_product, acts_same, drift_product, unit_positive}

abbrev K : Kind
K = modulo_lattice rod_line

-- sameness modulo the axis, as numbers say it
to_same : (m n : RodOperation) → SameRod m n → IsSame K m n
to_same m n h =
    let is : m ≡ record n { translation = n.translation +ℤ h.times *ℤ UNIT } = λ i. record { matrix = h.matrix i; along = h.along i; translation = h.translation i } in
    subst (λ x. IsSame K x n) (sym is) (moved_same n h.times)

from_same : (m n : RodOperation) → IsSame K m n → SameRod m n
from_same m n h =
    let (k, e) = same_rod m n h in
    record { matrix = ap (λ (x : RodOperation). x.matrix) e; along = ap (λ (x : RodOperation). x.along) e; times = k; translation = ap (λ (x : RodOperation). x.translation) e }

same_sym : (m n : RodOperation) → SameRod m n → SameRod n m
same_sym m n h = record { matrix = sym h.matrix; along = sym h.along; times = negsuc 0 *ℤ h.times; translation = turned m.translation n.translation h.times h.translation }
  where
    turned : (s t k : ℤ) → s ≡ t +ℤ k *ℤ UNIT → t ≡ s +ℤ negsuc 0 *ℤ k *ℤ UNIT
    turned s t k e = omega (arith, ints)

same_trans : (l m n : RodOperation) → SameRod l m → SameRod m n → SameRod l n
same_trans l m n h k = record { matrix = h.matrix ∙ k.matrix; along = h.along ∙ k.along; times = k.times +ℤ h.times; translation = on l.translation m.translation n.translation h.times k.times h.translation k.translation }
  where
    on : (r s t i j : ℤ) → r ≡ s +ℤ i *ℤ UNIT → s ≡ t +ℤ j *ℤ UNIT → r ≡ t +ℤ (j +ℤ i) *ℤ UNIT
    on r s t i j e f = omega (arith, ints)

same_followed : (l m n : RodOperation) → SameRod m n → SameRod (rod_followed_by l m) (rod_followed_by l n)
same_followed l m n h = record {
  matrix = λ i. (rod_followed_by l (record { matrix = h.matrix i; along = h.along i; translation = m.translation })).matrix;
  along = λ i. (rod_followed_by l (record { matrix = h.matrix i; along = h.along i; translation = m.translation })).along;
  times = h.times;
  translation = (λ i. sign_value (h.along i) *ℤ l.translation +ℤ h.translation i) ∙ on (sign_value n.along *ℤ l.translation) n.translation h.times;
}
  where
    on : (x t k : ℤ) → x +ℤ (t +ℤ k *ℤ UNIT) ≡ x +ℤ t +ℤ k *ℤ UNIT
    on x t k = omega (arith, ints)

same_before : (l m n : RodOperation) → SameRod m n → SameRod (rod_followed_by m l) (rod_followed_by n l)
same_before l m n h = record {
  matrix = λ i. (rod_followed_by (record { matrix = h.matrix i; along = h.along i; translation = m.translation }) l).matrix;
  along = λ i. (rod_followed_by (record { matrix = h.matrix i; along = h.along i; translation = m.translation }) l).along;
  times = sign_value l.along *ℤ h.times;
  translation = (λ i. sign_value l.along *ℤ h.translation i +ℤ l.translation) ∙ on (sign_value l.along) n.translation h.times l.translation;
}
  where
    on : (e t k s : ℤ) → e *ℤ (t +ℤ k *ℤ UNIT) +ℤ s ≡ e *ℤ t +ℤ s +ℤ (e *ℤ k) *ℤ UNIT
    on e t k s = ring (e ∷ t ∷ k ∷ s ∷ []) (var 0 ⊗ (var 1 ⊕ var 2 ⊗ num UNIT) ⊕ var 3) (var 0 ⊗ var 1 ⊕ var 3 ⊕ (var 0 ⊗ var 2) ⊗ num UNIT) tt

module _ (g : Listing) (u : Vector) (f : Basis) (rods : List Motion) (group : IsGroup g) (coprime : IsCoprime u) (frame : IsRodFrame g u f) (are_rods : AreRodOperations g u rods) (at : Vector) where
  abbrev p : Point
  p = counted at

  -- a drift of so many parts of the axis leads to a point of the line
  on_line : (m : Motion) (t : ℤ) → multiple UNIT (drift m at) ≡ multiple t f.tau → IsOnLine u p (moved m p)
  on_line m t e = record {
    by = record { num = t *ℤ frame.axis.times; den = UNIT *ℤ UNIT };
    is_fraction = one-le-mul UNIT UNIT unit_positive unit_positive;
    is = (shift_is f at m t).1 e ∙ ap (λ v. multiple (UNIT *ℤ UNIT) (plus (multiple (UNIT *ℤ UNIT) at) v)) along;
  }
    where
      regrouped : (t n k : ℤ) → t *ℤ n *ℤ k ≡ t *ℤ k *ℤ n
      regrouped t n k = ring (t ∷ n ∷ k ∷ []) (var 0 ⊗ var 1 ⊗ var 2) (var 0 ⊗ var 2 ⊗ var 1) tt

      along : multiple (t *ℤ UNIT) f.tau ≡ multiple (t *ℤ frame.axis.times *ℤ UNIT) u
      along =
          ap (multiple (t *ℤ UNIT)) frame.axis.is ∙ multiple-multiple (t *ℤ UNIT) frame.axis.times u
          ∙ ap (λ x. multiple x u) (regrouped t UNIT frame.axis.times)

  -- a motion that keeps the axis but for its sign keeps the direction
  keeps_direction : (m : Motion) (e : ℤ) → image m.matrix f.tau ≡ multiple e f.tau → image m.matrix u ≡ multiple e u
  keeps_direction m e h =
      multiple_cancel_pos k (image m.matrix u) (multiple e u) frame.axis.positive
      (sym (image-multiple m.matrix k u) ∙ ap (image m.matrix) (sym frame.axis.is) ∙ h ∙ ap (multiple e) frame.axis.is
      ∙ multiple-multiple e k u ∙ ap (λ x. multiple x u) (*ℤ_comm e k) ∙ sym (multiple-multiple k e u))
    where
      k : ℤ
      k = frame.axis.times

  -- what does an operation along the line maps it to itself
  pub in_stabiliser : (m : Motion) (op : RodOperation) → IsMember g m → ActsAs u f rods p m (rational_rod op) → InLineStabiliser g u p m
  in_stabiliser m op member acts =
      (stabiliser_by_direction g u p m group coprime unit_positive).1 (
        member,
        record {
          sign = sign_value op.along;
          is_sign = sign_is_sign op.along;
          direction = keeps_direction m (sign_value op.along) acts.axis;
          point = on_line m op.translation ((shift_is f at m op.translation).0 acts.translation);
        },
      )

  acts_identity : ActsAs u f rods p identity (rational_rod rod_identity)
  unfolding plus multiple
  acts_identity = record {
    across = record {
      first = ap (multiple (pos 1)) (image-unit (levelled u f rods f.a).at) ∙ only_first (levelled u f rods f.a).at (levelled u f rods f.b).at;
      second = ap (multiple (pos 1)) (image-unit (levelled u f rods f.b).at) ∙ only_second (levelled u f rods f.a).at (levelled u f rods f.b).at;
    };
    axis = image-unit f.tau ∙ sym (multiple-one f.tau);
    translation = (shift_is f at identity (pos 0)).1 (ap (λ v. multiple UNIT (minus (plus v origin) at)) (image-unit at) ∙ nothing at f.tau);
  }
    where
      only_first : (v w : Vector) → multiple (pos 1) v ≡ plus (multiple (pos 1) v) (multiple (pos 0) w)
      only_first v w = vector_path (omega (arith, ints)) (omega (arith, ints)) (omega (arith, ints))

      only_second : (v w : Vector) → multiple (pos 1) w ≡ plus (multiple (pos 0) v) (multiple (pos 1) w)
      only_second v w = vector_path (omega (arith, ints)) (omega (arith, ints)) (omega (arith, ints))

      nothing : (v w : Vector) → multiple UNIT (minus (plus v origin) v) ≡ multiple (pos 0) w
      nothing v w = vector_path (omega (arith, ints)) (omega (arith, ints)) (omega (arith, ints))

  differs_refl : (m : Motion) → DiffersAlong f m m
  unfolding plus multiple
  differs_refl m = record { matrix = refl; times = pos 0; translation = vector_path (omega (arith, ints)) (omega (arith, ints)) (omega (arith, ints)) }

  -- ---- the inverse of a motion

  module _ (m : Motion) (op : RodOperation) (member : IsMember g m) (acts_m : ActsAs u f rods p m (rational_rod op)) where
    abbrev i : (n : Motion) × IsMember g n × (followed_by m n ≡ identity) × (followed_by n m ≡ identity)
    i = group.inverses m member

    abbrev e : ℤ
    e = sign_value op.along

    inverse_direction : image i.0.matrix u ≡ multiple e u
    inverse_direction =
        sym (sign_twice e (sign_is_sign op.along) (image i.0.matrix u)) ∙ ap (multiple e)
        (sym (image-multiple i.0.matrix e u) ∙ ap (image i.0.matrix) (sym (keeps_direction m e acts_m.axis)) ∙ sym (image-product i.0.matrix m.matrix u)
        ∙ ap (λ (k : Motion). image k.matrix u) i.2 ∙ image-unit u)

    -- the drift of the inverse is that of the motion, turned and taken away
    inverse_drift : multiple UNIT (drift i.0 at) ≡ multiple (negsuc 0 *ℤ (op.translation *ℤ e)) f.tau
    unfolding plus multiple
    inverse_drift =
        let d = drift_product g u f rods group coprime frame are_rods at m i.0 in
        let still : drift identity at ≡ plus (image i.0.matrix (drift m at)) (drift i.0 at) = ap (λ k. drift k at) (sym i.2) ∙ d in
        let turned : multiple UNIT (image i.0.matrix (drift m at)) ≡ multiple (op.translation *ℤ e) f.tau =
        sym (image-multiple i.0.matrix UNIT (drift m at)) ∙ ap (image i.0.matrix) ((shift_is f at m op.translation).0 acts_m.translation)
        ∙ image-multiple i.0.matrix op.translation f.tau ∙ ap (multiple op.translation) (multiple_turned u f.tau i.0.matrix frame.axis.times e frame.axis.is inverse_direction)
        ∙ multiple-multiple op.translation e f.tau in
        let rest : minus (plus (image unit_matrix at) origin) at ≡ origin = ap (λ v. minus (plus v origin) at) (image-unit at) ∙ none at in
        let zero : origin ≡ plus (image i.0.matrix (drift m at)) (drift i.0 at) = sym rest ∙ still in
        vector_path
        (one UNIT (image i.0.matrix (drift m at)).x (drift i.0 at).x (op.translation *ℤ e) f.tau.x (λ j. (zero j).x) (λ j. (turned j).x))
        (one UNIT (image i.0.matrix (drift m at)).y (drift i.0 at).y (op.translation *ℤ e) f.tau.y (λ j. (zero j).y) (λ j. (turned j).y))
        (one UNIT (image i.0.matrix (drift m at)).z (drift i.0 at).z (op.translation *ℤ e) f.tau.z (λ j. (zero j).z) (λ j. (turned j).z))
      where
        none : (v : Vector) → minus (plus v origin) v ≡ origin
        none v = vector_path (omega (arith, ints)) (omega (arith, ints)) (omega (arith, ints))

        one : (n a b s c : ℤ) → pos 0 ≡ a +ℤ b → n *ℤ a ≡ s *ℤ c → n *ℤ b ≡ (negsuc 0 *ℤ s) *ℤ c
        one n a b s c h k =
            linear (n ∷ a ∷ b ∷ s ∷ c ∷ []) (var 0 ⊗ var 2) ((num (negsuc 0) ⊗ var 3) ⊗ var 4)
            (given (neg (var 0)) (num (pos 0)) (var 1 ⊕ var 2) ∷ given (neg (num (pos 1))) (var 0 ⊗ var 1) (var 3 ⊗ var 4) ∷ []) tt (h, (k, tt))

    inverse_in : InLineStabiliser g u p i.0
    inverse_in =
        (stabiliser_by_direction g u p i.0 group coprime unit_positive).1 (
          i.1,
          record { sign = e; is_sign = sign_is_sign op.along; direction = inverse_direction; point = on_line i.0 (negsuc 0 *ℤ (op.translation *ℤ e)) inverse_drift },
        )

  -- ---- a list of the stabiliser

  module _ (ms : List Motion) (ops : List RodOperation) (lists : ListsAlong g u f p ms) (sections : AreSections u f rods p ms ops) where
    abbrev Acts : Motion → RodOperation → Type 0
    Acts m op = ActsAs u f rods p m (rational_rod op)

    -- of a listed operation, the motion that does it
    pub motion_of_op : (op : RodOperation) → Contains ops op → (m : Motion) × InLineStabiliser g u p m × Acts m op
    motion_of_op op (k, within, is) =
        let below : k < length ms = subst (λ n. k < n) sections.count within in
        (motion_at ms k, lists.listed k below, subst (Acts (motion_at ms k)) (get_or_default ops k rod_identity op within ∙ is) (sections.each k below))

    -- what a member that maps the line to itself does is the same as a listed operation
    pub listed_op : (m : Motion) (op : RodOperation) → InLineStabiliser g u p m → Acts m op → (like : RodOperation) × Contains ops like × SameRod op like
    listed_op m op in_it acts_m =
        let o = lists.once m in_it in
        let within : o.place < length ops = subst (λ n. o.place < n) (sym sections.count) o.within in (
          rod_at ops o.place,
          (o.place, within, get_or_default ops o.place (rod_at ops o.place) rod_identity within),
          (acts_same g u f rods group coprime frame are_rods at m (motion_at ms o.place) op (rod_at ops o.place) acts_m (sections.each o.place o.within)).1 o.has,
        )

    is_listed : (m : Motion) (op : RodOperation) → InLineStabiliser g u p m → Acts m op → IsListed K ops op
    is_listed m op in_it acts_m = let (like, listed, same) = listed_op m op in_it acts_m in record { of = like; listed = listed; same = to_same op like same }

    one_same : (m n : Motion) (op : RodOperation) → followed_by m n ≡ identity → Acts (followed_by m n) op → SameRod op rod_identity
    one_same m n op is acts_mn =
        (acts_same g u f rods group coprime frame are_rods at identity identity op rod_identity (subst (λ k. Acts k op) is acts_mn) acts_identity).1 (differs_refl identity)

    has_inverse : (op : RodOperation) → Contains ops op → groups.HasInverse K ops op
    has_inverse op listed =
        let (m, in_it, acts_m) = motion_of_op op listed in
        let j = group.inverses m in_it.0 in
        let inverse = inverse_in m op in_it.0 acts_m in
        let (back, acts_n) = acts g u f rods group coprime frame are_rods at j.0 inverse in
        let (like, in_ops, same) = listed_op j.0 back inverse acts_n in
        let after = one_same m j.0 (rod_followed_by op back) j.2 (acts_product g u f rods group coprime frame are_rods at m j.0 op back acts_m acts_n) in
        let before = one_same j.0 m (rod_followed_by back op) j.3 (acts_product g u f rods group coprime frame are_rods at j.0 m back op acts_n acts_m) in
        record {
          inverse = like;
          listed = in_ops;
          undoes = record {
            after = to_same (rod_followed_by op like) rod_identity
                (same_trans (rod_followed_by op like) (rod_followed_by op back) rod_identity (same_followed op like back (same_sym back like same)) after);
            before = to_same (rod_followed_by like op) rod_identity
                (same_trans (rod_followed_by like op) (rod_followed_by back op) rod_identity (same_before op like back (same_sym back like same)) before);
          };
        }

    -- the sections are a group modulo the axis
    pub sections_are_group : groups.IsGroup K ops
    sections_are_group = record {
      identity = is_listed identity rod_identity (in_stabiliser identity rod_identity group.has_identity acts_identity) acts_identity;
      keeps = λ op listed. keeps rod_line rod_line_laws op;
      closed = λ op like in_ops in_ops'.
          let (m, in_it, acts_m) = motion_of_op op in_ops in
          let (n, in_it', acts_n) = motion_of_op like in_ops' in
          let both = acts_product g u f rods group coprime frame are_rods at m n op like acts_m acts_n in
          is_listed (followed_by m n) (rod_followed_by op like) (in_stabiliser (followed_by m n) (rod_followed_by op like) (group.products m n in_it.0 in_it'.0) both) both;
      inverses = has_inverse;
    }

    -- each once
    pub sections_once : AllPairs (λ op like. ¬ IsSame K op like) ops
    sections_once i j d less within same =
        let within' : j < length ms = subst (λ n. j < n) sections.count within in
        let below : i < length ms = omega (arith, less, within') in
        let at_i = get_or_default ops i d rod_identity (omega (arith, less, within)) in
        let at_j = get_or_default ops j d rod_identity within in
        let h : SameRod (rod_at ops i) (rod_at ops j) = from_same (rod_at ops i) (rod_at ops j) (subst (λ x. IsSame K x (rod_at ops j)) at_i (subst (IsSame K (slice_index_or ops i d)) at_j same)) in
        let differs = (acts_same g u f rods group coprime frame are_rods at (motion_at ms i) (motion_at ms j) (rod_at ops i) (rod_at ops j) (sections.each i below) (sections.each j within')).0 h in
        let o = lists.once (motion_at ms i) (lists.listed i below) in
        let one : i ≡ j = o.only i below (differs_refl (motion_at ms i)) ∙ sym (o.only j within' differs) in
        absurd (omega (arith, one, less))
