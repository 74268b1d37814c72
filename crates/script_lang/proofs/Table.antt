-- What is found in a table whose rows are those of their verbs.
use Rattle.std.proofs.Common.{◌≡◌, ℕ, cond, List, [], ◌∷◌, Option, Some, None, map, Bor, bytes_eq, refl, sym, ap, ◌∙◌, subst, inl, inr, IfSome, option_map}
use Rattle.std.specs.List.{find}
use Rattle.std.proofs.lemmas.Bool.{cases_Bool}
use Rattle.map_model.specs.Form as model
use Rattle.script_lang.specs.declared.form.Form.{Form}
use Rattle.script_lang.specs.Form.{verb_of, IsRow, verb_of_row, has_word, AreRows}

pub verb_of_found : (fs : List Form) (word : List ℕ) → AreRows fs → option_map verb_of_row (find (has_word word) fs) ≡ find (λ v. bytes_eq (model.form v).word word) (map verb_of_row fs)
verb_of_found [] word h = refl
verb_of_found (f ∷ fs) word h =
    let same : has_word word f ≡ bytes_eq (model.form (verb_of f.verb)).word word = ap (λ (row : model.Form). bytes_eq row.word word) h.0 in
    elim (cases_Bool (has_word word f)) [
      | inl yes' ↦
          ap (λ b. option_map verb_of_row (cond b (Some f) (find (has_word word) fs))) yes'
          ∙ sym (ap (λ b. cond b (Some (verb_of f.verb)) (find (λ v. bytes_eq (model.form v).word word) (map verb_of_row fs))) (sym same ∙ yes'))
      | inr no' ↦
          ap (λ b. option_map verb_of_row (cond b (Some f) (find (has_word word) fs))) no'
          ∙ verb_of_found fs word h.1
          ∙ sym (ap (λ b. cond b (Some (verb_of f.verb)) (find (λ v. bytes_eq (model.form v).word word) (map verb_of_row fs))) (sym same ∙ no'))
    ]

found_row : (fs : List Form) (word : List ℕ) → AreRows fs → IfSome (find (has_word word) fs) IsRow
found_row [] word h = tt
found_row (f ∷ fs) word h = elim (cases_Bool (has_word word f)) [
  | inl yes' ↦ subst (λ b. IfSome (cond b (Some f) (find (has_word word) fs)) IsRow) (sym yes') h.0
  | inr no' ↦ subst (λ b. IfSome (cond b (Some f) (find (has_word word) fs)) IsRow) (sym no') (found_row fs word h.1)
]

row_behind : (r : Option (Bor Form)) → IfSome (option_map (λ (f : Bor Form). f.now) r) IsRow → IfSome r (λ f. IsRow f.now)
row_behind None h = tt
row_behind (Some f) h = h

pub row_of_found : (fs : List Form) (word : List ℕ) (r : Option (Bor Form)) → option_map (λ (f : Bor Form). f.now) r ≡ find (has_word word) fs → AreRows fs → IfSome r (λ f. IsRow f.now)
row_of_found fs word r e h = row_behind r (subst (λ (o : Option Form). IfSome o IsRow) (sym e) (found_row fs word h))

verb_behind : (r : Option (Bor Form)) → option_map (λ (f : Bor Form). verb_of f.now.verb) r ≡ option_map verb_of_row (option_map (λ (f : Bor Form). f.now) r)
verb_behind None = refl
verb_behind (Some f) = refl

pub verb_of_result : (fs : List Form) (word : List ℕ) (r : Option (Bor Form)) → option_map (λ (f : Bor Form). f.now) r ≡ find (has_word word) fs → AreRows fs → option_map (λ (f : Bor Form). verb_of f.now.verb) r ≡ find (λ v. bytes_eq (model.form v).word word) (map verb_of_row fs)
verb_of_result fs word r e h = verb_behind r ∙ ap (option_map verb_of_row) e ∙ verb_of_found fs word h
