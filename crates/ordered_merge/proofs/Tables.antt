-- The table of new places: what one more entry means.
use Rattle.std.proofs.Common.{◌≡◌, ℕ, zero, suc, ◌<◌, ◌≤◌, Bool, true, false, Option, Some, None, List, [], ◌∷◌, ◌++◌, length, take, map, get_or, refl, sym, ap, ◌∙◌, arith, subst, slice_get, ⊎_elim}
use Rattle.std.specs.List.{items_where_true}
use Rattle.std.specs.Option.{is_some, option_map}
use Rattle.std.proofs.lemmas.Bool.{cases_lt}
use Rattle.std.proofs.lemmas.Option.{slice_get-get_or, slice_get-map, slice_get_within}
use Rattle.std.proofs.lemmas.List.{length-map, length_push, map-append, take-append-le}
use Rattle.query_laws.specs.declared.item.Order.{Order}
use Rattle.builder_trait.specs.Parts.{Contents, IsPart}
use Rattle.builder_trait.specs.Rebuilding.{live_before, live_reordered_before}
use Rattle.builder_trait.proofs.Kept.{kept, kept-more_live, kept-more_dead}
use Rattle.ordered_merge.specs.Merging.{chosen, HasNewPlaces, TakesLive}

module _ {A : Type 0} where
  pub slice_get_seam : (xs : List A) (y : A) → slice_get (xs ++ y ∷ []) (length xs) ≡ Some y
  slice_get_seam [] y = refl
  slice_get_seam (x ∷ xs) y = slice_get_seam xs y

  pub slice_get_left : (xs ys : List A) (k : ℕ) → k < length xs → slice_get (xs ++ ys) k ≡ slice_get xs k
  slice_get_left [] ys k below = absurd (omega arith)
  slice_get_left (x ∷ xs) ys zero below = refl
  slice_get_left (x ∷ xs) ys (suc k) below = slice_get_left xs ys k (omega arith)

module _ {Item : Type 0} (table : List (Option ℕ)) (e : Option ℕ) (part : Contents Item) where
  flags_seam : slice_get (map is_some (table ++ e ∷ [])) (length table) ≡ Some (is_some e)
  flags_seam = slice_get-map is_some (table ++ e ∷ []) (length table) ∙ ap (option_map is_some) (slice_get_seam table e)

  kept_earlier : kept (length table) (map is_some (table ++ e ∷ [])) part.items ≡ live_before (length table) (chosen table part)
  kept_earlier =
      let same : take (length table) (map is_some (table ++ e ∷ [])) ≡ take (length table) (map is_some table) =
      ap (take (length table)) (map-append is_some table (e ∷ []))
      ∙ take-append-le (length table) (map is_some table) (is_some e ∷ []) (omega (arith, length-map table is_some)) in
      ap (λ l. kept_of l) same
    where
      kept_of : List Bool → List Item
      kept_of l = items_where_true l (take (length table) part.items)

  -- an item that is taken, or skipped
  pub live_before-taken : (x : Item) → is_some e ≡ true → slice_get part.items (length table) ≡ Some x
      → live_before (length (table ++ e ∷ [])) (chosen (table ++ e ∷ []) part) ≡ live_before (length table) (chosen table part) ++ x ∷ []
  live_before-taken x some at =
      ap (λ n. live_before n (chosen (table ++ e ∷ []) part)) (length_push table e)
      ∙ kept-more_live (map is_some (table ++ e ∷ [])) part.items (length table) x (flags_seam ∙ ap Some some) at
      ∙ ap (λ l. l ++ x ∷ []) kept_earlier

  pub live_before-skipped : is_some e ≡ false
      → live_before (length (table ++ e ∷ [])) (chosen (table ++ e ∷ []) part) ≡ live_before (length table) (chosen table part)
  live_before-skipped none =
      ap (λ n. live_before n (chosen (table ++ e ∷ []) part)) (length_push table e)
      ∙ kept-more_dead (map is_some (table ++ e ∷ [])) part.items (length table) (flags_seam ∙ ap Some none)
      ∙ kept_earlier

module _ {Item : Type 0} (table : List (Option ℕ)) (xs merged : List Item) (within : length table ≤ length xs) (h : HasNewPlaces table xs merged) where
  -- new places stay where one more item is put
  pub HasNewPlaces-longer : (x : Item) → HasNewPlaces table xs (merged ++ x ∷ [])
  HasNewPlaces-longer x k n at =
      let inside : k < length xs = omega (arith, slice_get_within table k (Some n) at) in
      let there : slice_get merged n ≡ Some (get_or xs k x) = h k n at ∙ slice_get-get_or xs k x inside in
      slice_get_left merged (x ∷ []) n (slice_get_within merged n (get_or xs k x) there) ∙ h k n at

  pub HasNewPlaces-skipped : HasNewPlaces (table ++ None ∷ []) xs merged
  HasNewPlaces-skipped k n at =
      ⊎_elim
      (λ less. h k n (sym (slice_get_left table (None ∷ []) k less) ∙ at))
      (λ later.
      let inside : k < length (table ++ None ∷ []) = slice_get_within (table ++ None ∷ []) k (Some n) at in
      let same : length table ≡ k = omega (arith, length_push table None) in
      let both : Some None ≡ Some (Some n) = sym (slice_get_seam table None) ∙ ap (slice_get (table ++ None ∷ [])) same ∙ at in
      absurd cc)
      (cases_lt k (length table))

  pub HasNewPlaces-taken : (x : Item) → slice_get xs (length table) ≡ Some x
      → HasNewPlaces (table ++ Some (length merged) ∷ []) xs (merged ++ x ∷ [])
  HasNewPlaces-taken x here k n at =
      ⊎_elim
      (λ less. HasNewPlaces-longer x k n (sym (slice_get_left table (Some (length merged) ∷ []) k less) ∙ at))
      (λ later.
      let inside : k < length (table ++ Some (length merged) ∷ []) = slice_get_within (table ++ Some (length merged) ∷ []) k (Some n) at in
      let same : length table ≡ k = omega (arith, length_push table (Some (length merged))) in
      let both : Some (Some (length merged)) ≡ Some (Some n) =
      sym (slice_get_seam table (Some (length merged))) ∙ ap (slice_get (table ++ Some (length merged) ∷ [])) same ∙ at in
      let place : length merged ≡ n = cc in
      ap (slice_get (merged ++ x ∷ [])) (sym place) ∙ slice_get_seam merged x ∙ sym here ∙ ap (slice_get xs) same)
      (cases_lt k (length table))

module _ {Item : Type 0} where
  -- where the second order has read nothing, the table says nothing of it
  pub reread_none : (r : ℕ) (part other : Contents Item) → r ≡ 0 → live_reordered_before r part ≡ live_reordered_before r other
  reread_none r part other e = ap (λ n. live_reordered_before n part) e ∙ sym (ap (λ n. live_reordered_before n other) e)

  -- a full table chooses a part
  pub IsPart-chosen : {before : Order → Item → Item → Bool} {part : Contents Item} (table : List (Option ℕ)) → IsPart before part
      → length table ≡ length part.items → IsPart before (chosen table part)
  IsPart-chosen table valid full = record {
    rising = valid.rising;
    rising_reordered = valid.rising_reordered;
    flagged = length-map table is_some ∙ full;
    placed = valid.placed;
    each_place = valid.each_place;
    same_items = valid.same_items;
  }

-- reading on takes what is live
pub TakesLive-none : {flags : List Bool} (table : List (Option ℕ)) → TakesLive flags table table
TakesLive-none table = record { longer = omega arith; kept = λ k below. refl; taken = λ k from below. absurd (omega arith) }

pub TakesLive-more : {flags : List Bool} {old new last : List (Option ℕ)} → TakesLive flags old new → TakesLive flags new last → TakesLive flags old last
TakesLive-more {flags} {old} {new} {last} h more = record {
  longer = omega (arith, h.longer, more.longer);
  kept = λ k below. more.kept k (omega (arith, h.longer)) ∙ h.kept k below;
  taken = λ k from below. ⊎_elim
      (λ less. slice_get-map is_some last k ∙ ap (option_map is_some) (more.kept k less) ∙ sym (slice_get-map is_some new k) ∙ h.taken k from less)
      (λ later. more.taken k later below)
      (cases_lt k (length new));
}

pub TakesLive-read : {flags : List Bool} (table : List (Option ℕ)) (e : Option ℕ) (new : List (Option ℕ)) → new ≡ table ++ e ∷ []
    → slice_get flags (length table) ≡ Some (is_some e) → TakesLive flags table new
TakesLive-read {flags} table e new is live = subst (TakesLive flags table) (sym is) (record {
  longer = omega (arith, length_push table e);
  kept = λ k below. slice_get_left table (e ∷ []) k below;
  taken = λ k from below.
      let here : length table ≡ k = omega (arith, length_push table e) in
      slice_get-map is_some (table ++ e ∷ []) k
      ∙ ap (option_map is_some) (ap (slice_get (table ++ e ∷ [])) (sym here) ∙ slice_get_seam table e)
      ∙ sym live ∙ ap (slice_get flags) here;
})
