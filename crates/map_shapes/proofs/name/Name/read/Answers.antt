use Rattle.std.proofs.Common.{◌≡◌, ◌-◌, ◌≤◌, ℕ, List, ◌++◌, length, take, drop, replicate, true, Some, None, cond, arith, refl, sym, ap, ◌∙◌, ◌+◌, subst, take_at, drop_at}
use Rattle.std.proofs.lemmas.List.{drop-replicate, length-replicate}
use Rattle.std.proofs.Common.{length-append}
use Rattle.map_model.specs.Words.{is_name}
use Rattle.map_shapes.specs.NameBytes.{IsNameIn, array_of}
use Rattle.map_shapes.proofs.name.Name.read.Goals as goal

-- a name of at most 16 bytes stands in the array that is made of it
name_in_array : (word : List ℕ) → length word ≤ 16 → is_name word ≡ true → IsNameIn (array_of word) (length word)
name_in_array word short is = record {
  whole = length-append word (replicate (16 - length word) 0) ∙ ap (λ n. length word + n) (length-replicate (16 - length word) 0) ∙ omega arith;
  fits = short;
  name = ap is_name (take_at word (replicate (16 - length word) 0) (length word) refl) ∙ is;
  rest = drop_at word (replicate (16 - length word) 0) (length word) refl;
}

written : (word copied : List ℕ) → length word ≤ 16 → copied ≡ word → copied ++ drop (length word) (replicate 16 0) ≡ array_of word
written word copied short e = ap (λ (bytes : List ℕ). bytes ++ drop (length word) (replicate 16 0)) e ∙ ap (λ (bytes : List ℕ). word ++ bytes) (drop-replicate (length word) 16 0)

pub invariant_of-result : goal.invariant_of-result
invariant_of-result c =
    let word = c.args.word.now in
    let is : is_name word ≡ true = sym c.is_name.ensures.name ∙ c.if-not-is_name.false in
    let short = c.is_name.ensures.short c.if-not-is_name.false in
    subst (λ (bytes : List ℕ). IsNameIn bytes (length word)) (sym (written word c.copy_from_slice.new.self short c.copy_from_slice.ensures.after)) (name_in_array word short is)

pub returns : goal.returns
returns c =
    let word = c.args.word.now in
    let is : is_name word ≡ true = sym c.is_name.ensures.name ∙ c.if-not-is_name.false in
    let short = c.is_name.ensures.short c.if-not-is_name.false in
    ap (λ (bytes : List ℕ). Some (take (length word) bytes)) (written word c.copy_from_slice.new.self short c.copy_from_slice.ensures.after)
    ∙ ap (λ (bytes : List ℕ). Some bytes) (take_at word (replicate (16 - length word) 0) (length word) refl)
    ∙ sym (ap (λ b. cond b (Some word) None) is)
