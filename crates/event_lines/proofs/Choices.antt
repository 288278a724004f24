-- Laws of what a test chooses. Assumes nothing.
use mathlib.Core.Path.{◌≡◌, sym, ap}
use mathlib.Core.Bool.{Bool, true, false, cond}

pub chosen {ℓ} : {A : Type ℓ} (t : Bool) (x y : A) → t ≡ true → x ≡ cond t x y
chosen {A = A} t x y e = sym (ap (λ (b : Bool). cond {A = A} b x y) e)

pub refused {ℓ} : {A : Type ℓ} (t : Bool) (x y : A) → t ≡ false → y ≡ cond t x y
refused {A = A} t x y e = sym (ap (λ (b : Bool). cond {A = A} b x y) e)
