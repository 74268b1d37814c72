-- A found point's square in 64 bits and one.
use Rattle.std.specs.Prelude.{◌≡◌, ℕ, ◌+◌, ◌-◌, ◌^◌, ◌<◌, Bool, true, false, nat_le, if◌then◌else◌}
use Rattle.std.proofs.Common.{arith, ap, ◌∙◌, cond}
use Rattle.std.proofs.lemmas.Bool.Decides.{nat_tests}
use Rattle.map_model.specs.Found as model
use Rattle.map_shapes.specs.declared.found.Found.TheInside.{Inside}

-- the square that they say
abbrev pub square_of : Bool → ℕ → ℕ
square_of far low = low + (if far then 2 ^ 64 else 0)

-- the fields that say a square
abbrev pub parts_of : model.Found → Inside
parts_of f = record { id = f.id; low = f.dist - (if nat_le (2 ^ 64) f.dist then 2 ^ 64 else 0); far = nat_le (2 ^ 64) f.dist }

is_far : (far : Bool) (low : ℕ) → low < 2 ^ 64 → nat_le (2 ^ 64) (square_of far low) ≡ far
is_far true low small = grind (arith, nat_tests)
is_far false low small = grind (arith, nat_tests)

is_low : (far : Bool) (low : ℕ) → square_of far low - cond far (2 ^ 64) 0 ≡ low
is_low true low = omega arith
is_low false low = omega arith

pub same_parts : (f : Inside) → f.low < 2 ^ 64 → parts_of (record { dist = square_of f.far f.low; id = f.id }) ≡ f
same_parts f small =
    let far = is_far f.far f.low small in
    let low = ap (λ (b : Bool). square_of f.far f.low - cond b (2 ^ 64) 0) far ∙ is_low f.far f.low in
    λ i. record { id = f.id; low = low i; far = far i }
