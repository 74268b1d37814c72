-- A part that is carried up through levels.
use Rattle.std.proofs.Common.{◌≡◌, ℕ, suc, ◌+◌, ◌^◌, ◌<◌, ◌≤◌, ◌∙◌, Option, Some, None, List, [], ◌∷◌, ◌++◌, length, refl, ap, sym, subst, arith, append_assoc}
use Rattle.std.proofs.Math.Nat.{pow-suc}
use Rattle.std.proofs.lemmas.List.{length-append}
use Rattle.std.proofs.lemmas.List.Elements.{All-cons, All-nil, All-tail}
use Rattle.query_laws.specs.Orders.{AllStampsDiffer}
use Rattle.query_laws.specs.Permuted.{Permuted, composed}
use Rattle.query_laws.proofs.Permutations.{Permuted-refl, Permuted-append_left, Permuted-length}
use Rattle.builder_trait.specs.Parts.{Contents, live_of}
use Rattle.ordered_merge.specs.Merging.{StampsDiffer}
use Rattle.binary_stack.specs.Levels.{IsPartOf, weight_of, raised, items_in, live_items, all_items, IsTakenIn, IsCarried}
use Rattle.binary_stack.proofs.Distinct.{IsPartOf-permuted, IsPartOf-refl, IsPartOf-then, IsPartOf-append, AllStampsDiffer-part, AllStampsDiffer-front, StampsDiffer-parts, live_part}
use Rattle.binary_stack.proofs.Levels.{doubled, raised-cons, few_live}

module _ {P Item : Type 0} (contents : P → Contents Item) where
  abbrev AtMost : ℕ → Option P → Type 0
  AtMost n l = length (items_in contents l) ≤ n

  module _ (p : P) (fresh : live_of (contents p) ≡ (contents p).items) where
    -- a part all of whose items live stays in a level that had none
    pub IsCarried-here : (above : List (Option P)) → IsCarried contents (contents p).items (None ∷ above) None (Some p ∷ above)
    IsCarried-here above =
        let xs = (contents p).items in
        let lives = live_items contents above in
        record {
          taken_in = record {
            live = subst (λ l. Permuted (l ++ lives) (xs ++ lives)) (sym fresh) (Permuted-refl (xs ++ lives));
            items = IsPartOf-refl (xs ++ all_items contents above);
            weight = omega arith;
            levels = λ i few levels. (few, levels.1);
            sizes = λ m few small.
                All-cons (AtMost m) (Some p) above (omega (arith, few, length-append xs lives)) (All-tail (AtMost m) None above small);
          };
          as_many = refl;
          full = λ q is. absurd cc;
        }

    -- or goes past the highest
    pub IsCarried-past : IsCarried contents (contents p).items [] (Some p) []
    IsCarried-past =
        let xs = (contents p).items in
        record {
          taken_in = record {
            live = subst (λ l. Permuted (l ++ []) (xs ++ [])) (sym fresh) (Permuted-refl (xs ++ []));
            items = IsPartOf-refl (xs ++ []);
            weight = refl;
            levels = λ i few levels. (few, tt);
            sizes = λ m few small. All-cons (AtMost m) (Some p) [] (omega (arith, few, length-append xs [])) (All-nil (AtMost m));
          };
          as_many = refl;
          full = λ q is. refl;
        }

  -- the part of a level is joined with the one that is carried there
  module _ (part other joined : P) (above : List (Option P))
      (items : Permuted (contents joined).items (live_of (contents part) ++ live_of (contents other)))
      (fresh : live_of (contents part) ≡ (contents part).items) where
    joined_items : Permuted (contents joined).items ((contents part).items ++ live_of (contents other))
    joined_items = subst (λ l. Permuted (contents joined).items (l ++ live_of (contents other))) fresh items

    pub length-joined : length (contents joined).items ≡ length (contents part).items + length (live_of (contents other))
    length-joined = Permuted-length joined_items ∙ length-append (contents part).items (live_of (contents other))

    all_joined : IsPartOf ((contents joined).items ++ all_items contents above)
        ((contents part).items ++ ((contents other).items ++ all_items contents above))
    all_joined =
        let js = (contents joined).items in
        let xs = (contents part).items in
        let ys = (contents other).items in
        let lives = live_of (contents other) in
        let rest = all_items contents above in
        let both : IsPartOf js (xs ++ ys) =
        IsPartOf-then js (xs ++ lives) (xs ++ ys) (IsPartOf-permuted js joined_items)
        (IsPartOf-append xs xs lives ys (IsPartOf-refl xs) (live_part (contents other).flags ys)) in
        subst (IsPartOf (js ++ rest)) (append_assoc xs ys rest) (IsPartOf-append js (xs ++ ys) rest rest both (IsPartOf-refl rest))

    module _ (top : Option P) (above' : List (Option P)) (h : IsCarried contents (contents joined).items above top above') where
      taken : IsTakenIn contents (contents part).items (Some other ∷ above) (None ∷ raised top above')
      taken =
          let js = (contents joined).items in
          let xs = (contents part).items in
          let lives = live_of (contents other) in
          let rest = live_items contents above in
          let t = h.taken_in in
          record {
            live = composed t.live (subst (Permuted (js ++ rest)) (append_assoc xs lives rest) (Permuted-append_left rest joined_items));
            items = IsPartOf-then (all_items contents (raised top above')) (js ++ all_items contents above)
                (xs ++ ((contents other).items ++ all_items contents above)) t.items all_joined;
            weight = omega (arith, t.weight);
            levels = λ i few levels. (
              omega arith,
              t.levels (i + 1) (omega (arith, few, levels.0, length-joined, few_live contents other, doubled i)) levels.1,
            );
            sizes = λ m few small. All-cons (AtMost m) None (raised top above') (omega arith)
                (t.sizes m (omega (arith, few, length-joined, length-append js rest, length-append xs (lives ++ rest), length-append lives rest))
                (All-tail (AtMost m) (Some other) above small));
          }

      pub IsCarried-joined : IsCarried contents (contents part).items (Some other ∷ above) top (None ∷ above')
      IsCarried-joined = record {
        taken_in = subst (IsTakenIn contents (contents part).items (Some other ∷ above)) (sym (raised-cons top None above')) taken;
        as_many = ap suc h.as_many;
        full = λ q is. omega (arith, h.full q is, pow-suc 2 (length above));
      }

    module _ (stamp : Item → ℕ) (apart : AllStampsDiffer stamp ((contents part).items ++ all_items contents (Some other ∷ above))) where
      pub apart-joined : AllStampsDiffer stamp ((contents joined).items ++ all_items contents above)
      apart-joined =
          AllStampsDiffer-part stamp ((contents joined).items ++ all_items contents above)
          ((contents part).items ++ ((contents other).items ++ all_items contents above)) all_joined apart

  pub apart-sources : (stamp : Item → ℕ) (part other : P) (above : List (Option P))
      → AllStampsDiffer stamp ((contents part).items ++ all_items contents (Some other ∷ above))
      → StampsDiffer stamp (contents part).items (contents other).items
  apart-sources stamp part other above apart =
      let xs = (contents part).items in
      let ys = (contents other).items in
      StampsDiffer-parts stamp xs ys
      (AllStampsDiffer-front stamp (xs ++ ys) (all_items contents above)
      (subst (AllStampsDiffer stamp) (sym (append_assoc xs ys (all_items contents above))) apart))

  -- what the caller sees, where what was carried past the highest level is put on top
  pub higher-full : (xs : List Item) (old new : List (Option P)) (top : Option P) → IsCarried contents xs old top new
      → length old < length (raised top new) → weight_of (raised top new) ≡ 2 ^ length old
  higher-full xs old new None h longer = absurd (omega (arith, longer, h.as_many))
  higher-full xs old new (Some p) h longer = h.taken_in.weight ∙ h.full p refl

  pub one-higher : (xs : List Item) (old new : List (Option P)) (top : Option P) → IsCarried contents xs old top new
      → length (raised top new) ≤ length old + 1
  one-higher xs old new None h = omega (arith, h.as_many)
  one-higher xs old new (Some p) h = omega (arith, h.as_many, length-append new (Some p ∷ []))
