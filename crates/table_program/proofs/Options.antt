-- What an equation of two options says.
use Rattle.std.proofs.Common.{◌≡◌, Some, None}

pub no_item : {X : Type 0} (x : X) → Some x ≡ None → ⊥
no_item x equal = cc

pub same_item : {X : Type 0} (x y : X) → Some x ≡ Some y → x ≡ y
same_item x y is = cc
