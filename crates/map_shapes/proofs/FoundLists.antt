-- Lists of found points, in two.
use Rattle.std.proofs.Common.{◌≡◌, ℕ, zero, suc, ◌≤◌, Bool, List, [], ◌∷◌, ◌++◌, length, take, Some, slice_get, refl, sym, ap, ◌∙◌, arith}
use Rattle.std.specs.Prelude.{insert}
use Rattle.map_model.specs.Found.{Found}
use Rattle.map_shapes.specs.declared.found.Short.{Short}
use Rattle.map_shapes.specs.Founds.{found_in, founds_in}

pub founds-length : (shorts : List Short) (bits : List Bool) → length shorts ≡ length bits → length (founds_in shorts bits) ≡ length shorts
founds-length [] bits same = refl
founds-length (short ∷ shorts) [] same = absurd (omega (arith, same))
founds-length (short ∷ shorts) (far ∷ bits) same = ap suc (founds-length shorts bits (omega (arith, same)))

pub list-length : (shorts : List Short) (bits : List Bool) (list : List Found) → length shorts ≡ length bits → founds_in shorts bits ≡ list → length list ≡ length shorts
list-length shorts bits list same view = sym (ap length view) ∙ founds-length shorts bits same

pub founds-append : (shorts others : List Short) (bits more : List Bool) → length shorts ≡ length bits
    → founds_in (shorts ++ others) (bits ++ more) ≡ founds_in shorts bits ++ founds_in others more
founds-append [] others [] more same = refl
founds-append [] others (far ∷ bits) more same = absurd (omega (arith, same))
founds-append (short ∷ shorts) others [] more same = absurd (omega (arith, same))
founds-append (short ∷ shorts) others (far ∷ bits) more same = ap (λ l. found_in short far ∷ l) (founds-append shorts others bits more (omega (arith, same)))

pub founds-take : (k : ℕ) (shorts : List Short) (bits : List Bool) → founds_in (take k shorts) (take k bits) ≡ take k (founds_in shorts bits)
founds-take zero shorts bits = refl
founds-take (suc k) [] bits = refl
founds-take (suc k) (short ∷ shorts) [] = refl
founds-take (suc k) (short ∷ shorts) (far ∷ bits) = ap (λ l. found_in short far ∷ l) (founds-take k shorts bits)

pub founds-insert : (k : ℕ) (shorts : List Short) (bits : List Bool) (short : Short) (far : Bool) → length shorts ≡ length bits → k ≤ length shorts
    → founds_in (insert shorts k short) (insert bits k far) ≡ insert (founds_in shorts bits) k (found_in short far)
founds-insert zero shorts bits short far same within = refl
founds-insert (suc k) [] bits short far same within = absurd (omega (arith, within))
founds-insert (suc k) (other ∷ shorts) [] short far same within = absurd (omega (arith, same))
founds-insert (suc k) (other ∷ shorts) (bit ∷ bits) short far same within =
    ap (λ l. found_in other bit ∷ l) (founds-insert k shorts bits short far (omega (arith, same)) (omega (arith, within)))

pub founds-get : (k : ℕ) (shorts : List Short) (bits : List Bool) (short : Short) (far : Bool) → slice_get shorts k ≡ Some short → slice_get bits k ≡ Some far
    → slice_get (founds_in shorts bits) k ≡ Some (found_in short far)
founds-get k [] bits short far at bit = cc
founds-get k (other ∷ shorts) [] short far at bit = cc
founds-get zero (other ∷ shorts) (b ∷ bits) short far at bit = grind (arith, at, bit)
founds-get (suc k) (other ∷ shorts) (b ∷ bits) short far at bit = founds-get k shorts bits short far at bit
