use Rattle.std.proofs.Common.{refl}
use Rattle.recognition.proofs.rod_pairs.is_paired.Goals as goal

pub returns-then-not-is_like : goal.returns-then-not-is_like
returns-then-not-is_like c = (λ t. absurd (cc), λ h. c.if-not-is_like.ensures.1 h.like)

pub returns : goal.returns
returns c = (λ t. record { like = c.if-not-is_like.ensures.0 refl; close = c.is_close.ensures.0 t }, λ h. c.is_close.ensures.1 h.close)
