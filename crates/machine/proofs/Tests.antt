-- Laws of tests. Assumes nothing.
use mathlib.Core.Path.{◌≡◌, refl}
use mathlib.Core.Bool.{Bool, true, false, cond, ◌&&◌, false≢true}

-- what holds of both holds of the one that a test takes
pub test : {A : Type 0} (P : A → Type 0) (b : Bool) {x y : A} → (b ≡ true → P x) → (b ≡ false → P y) → P (cond b x y)
test P true f g = f refl
test P false f g = g refl

-- two tests are not both true, and the first is
pub second_off : (a b : Bool) → (a && b) ≡ false → a ≡ true → b ≡ false
second_off true b h k = h
second_off false b h k = absurd (false≢true k)
