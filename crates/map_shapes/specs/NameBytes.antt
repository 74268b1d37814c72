-- A name in its fixed array.
use Rattle.std.specs.Prelude.{◌≡◌, ℕ, ◌-◌, ◌≤◌, List, ◌++◌, length, take, drop, replicate, true}
use Rattle.std.proofs.Common.{arith, ap, sym, ◌∙◌, length-take-le, take-append-drop}
use Rattle.map_model.specs.Words.{is_name}

-- A name's bytes stand at the front of the array, and zeros behind them.
pub record IsNameIn (bytes : List ℕ) (len : ℕ) : Type 0 where
  pub whole : length bytes ≡ 16
  pub fits : len ≤ 16
  pub name : is_name (take len bytes) ≡ true
  pub rest : drop len bytes ≡ replicate (16 - len) 0

-- the array of a name
abbrev pub array_of : List ℕ → List ℕ
array_of name = name ++ replicate (16 - length name) 0

pub name_length : (bytes : List ℕ) (len : ℕ) → IsNameIn bytes len → length (take len bytes) ≡ len
name_length bytes len h = length-take-le len bytes (omega (arith, h.fits, h.whole))

pub array_of_name : (bytes : List ℕ) (len : ℕ) → IsNameIn bytes len → array_of (take len bytes) ≡ bytes
array_of_name bytes len h =
    ap (λ n. take len bytes ++ replicate (16 - n) 0) (name_length bytes len h) ∙ ap (λ rest. take len bytes ++ rest) (sym h.rest) ∙ take-append-drop len bytes
