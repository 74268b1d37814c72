-- A leaf that is opened has no other y.
use Rattle.std.proofs.Common.{◌≡◌, ◌≢◌, ℕ, ◌+◌, ◌-◌, ◌/◌, ◌%◌, ◌<◌, ◌≤◌, ◌⊎◌, inl, inr, List, [], ◌∷◌, ◌++◌, length, get_or, set, replicate, sym, ap, ◌∙◌, arith}
use Rattle.std.proofs.lemmas.Bool.{cases_lt}
use Rattle.std.proofs.lemmas.List.{get_or_append_left, get_or-append_right, get_or_past, get_or_push, get_or-set_other, get_or-replicate}
use Rattle.range_tree.specs.declared.leaves.Leaf.{Leaf}
use Rattle.range_tree.specs.Tree.{y_at}

opened_elsewhere : (ys : List ℕ) (y j : ℕ) → ys ≡ set (replicate 16 0) 0 y → j ≢ 0 → j < 16 → get_or ys j 0 ≡ 0
opened_elsewhere ys y j is other inside =
    ap (λ l. get_or l j 0) is ∙ get_or-set_other (replicate 16 0) 0 j y 0 other ∙ get_or-replicate 16 j 0 0 inside

module _ (leaves : List Leaf) (new : Leaf) (y place : ℕ) (many : length leaves ≡ (place + 15) / 16) (first : place % 16 ≡ 0)
    (is : new.ys ≡ set (replicate 16 0) 0 y) where
  pub y_at-opened : (k : ℕ) → k ≢ place → y_at (leaves ++ new ∷ []) k ≡ y_at leaves k
  y_at-opened k other = by (cases_lt (k / 16) (length leaves)) (cases_lt (length leaves) (k / 16))
    where
      no : Leaf
      no = record { ys = []; live = 0 }

      by : (k / 16 < length leaves) ⊎ (length leaves ≤ k / 16) → (length leaves < k / 16) ⊎ (k / 16 ≤ length leaves)
          → y_at (leaves ++ new ∷ []) k ≡ y_at leaves k
      by (inl before) _ = ap (λ (leaf : Leaf). get_or leaf.ys (k % 16) 0) (get_or_append_left leaves (new ∷ []) no (k / 16) before)
      by (inr from) (inl past) =
          ap (λ (leaf : Leaf). get_or leaf.ys (k % 16) 0)
          (get_or-append_right leaves (new ∷ []) (length leaves) (k / 16) no (omega arith) from
          ∙ get_or_past (new ∷ []) (k / 16 - length leaves) no (omega arith) ∙ sym (get_or_past leaves (k / 16) no from))
      by (inr from) (inr up_to) =
          ap (λ (leaf : Leaf). get_or leaf.ys (k % 16) 0) (get_or_push leaves new no (k / 16) (omega arith))
          ∙ opened_elsewhere new.ys y (k % 16) is (omega (arith, many, first)) (omega arith)
          ∙ ap (λ (leaf : Leaf). get_or leaf.ys (k % 16) 0) (sym (get_or_past leaves (k / 16) no from))
