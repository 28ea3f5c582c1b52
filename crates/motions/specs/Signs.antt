-- A sign as a number, the product of signs, and equality as a test.
use Rattle.std.specs.Prelude.{ℤ, pos, negsuc, Bool, true, false}
use Rattle.motions.specs.declared.motion.Sign.{Sign}
use Rattle.motions.specs.declared.motion.Sign.TheVariants.{Plus, Minus}

-- 1 or -1
abbrev pub sign_value : Sign → ℤ
sign_value Plus = pos 1
sign_value Minus = negsuc 0

-- the other sign
abbrev pub opposite_sign : Sign → Sign
opposite_sign Plus = Minus
opposite_sign Minus = Plus

-- the product of two signs
abbrev pub sign_product : Sign → Sign → Sign
sign_product Plus e = e
sign_product Minus e = opposite_sign e

-- whether two signs are equal
abbrev pub same_sign : Sign → Sign → Bool
same_sign Plus Plus = true
same_sign Plus Minus = false
same_sign Minus Plus = false
same_sign Minus Minus = true
