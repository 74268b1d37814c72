-- What the writes of one link change.
use Rattle.std.proofs.Common.{◌≡◌, ℕ, cond, Option, Some, None, is_some, IsSome, refl, sym, ap, ◌∙◌, arith, rules}
use Rattle.std.proofs.lemmas.List.Sums.{sum_by-set}
use Rattle.std.proofs.lemmas.Grind.{common_steps}
use Rattle.slab.specs.Slab.{Slab, get, with_value, slab_len, ContainsKey}
use Rattle.slab.proofs.SlabLemmas.{Updates-with_value, ContainsKey-within}
use Rattle.id_chain.specs.declared.node.Node.{Node}
use Rattle.id_chain.specs.Linking.{ChangesNode}

module _ {T : Type 0} where
  pub ContainsKey-some : (s : Slab T) (key : ℕ) (value : T) → get s key ≡ Some value → ContainsKey s key
  ContainsKey-some s key value found = rw found (search rules)

  -- a write over a value leaves the number of values
  pub slab_len-with_value : (s : Slab T) (key : ℕ) (value : T) → ContainsKey s key → slab_len (with_value s key value) ≡ slab_len s
  slab_len-with_value s key value present =
      let counted = sum_by-set (λ o. cond (is_some o) 1 0) s.slots key (Some value) None (ContainsKey-within s key present) in
      grind (arith, common_steps)

module _ {T : Type 0} where
  -- a key with a value has one
  pub value_at : (s : Slab T) (key : ℕ) → ContainsKey s key → (value : T) × (get s key ≡ Some value)
  value_at s key present = go (get s key) refl present
    where
      go : (o : Option T) → get s key ≡ o → IsSome o → (value : T) × (get s key ≡ Some value)
      go None is some = absurd (cc)
      go (Some value) is some = (value, is)

module _ {I : Type 0} where
  -- a write of a node that is there
  ChangesNode-with_value : (change : Node I → Node I) (s : Slab (Node I)) (place : ℕ) (node : Node I) → get s place ≡ Some node
      → ChangesNode change s (with_value s place (change node)) (Some place)
  ChangesNode-with_value change s place node found =
      let present = ContainsKey-some s place node found in
      let updates = Updates-with_value s place (change node) present in
      record {
        changed = λ p old same there.
            let here : place ≡ p = cc in
            let one : Some node ≡ Some old = sym found ∙ ap (get s) here ∙ there in
            let both : node ≡ old = cc in
            ap (get (with_value s place (change node))) (sym here) ∙ updates.changed ∙ ap (λ (x : Node I). Some (change x)) both;
        others = λ other differs. updates.others other (λ same. differs (ap Some (sym same)));
        len = slab_len-with_value s place _ present;
        capacity = refl;
        vacant_key = refl;
      }

  -- a call that writes the node at a place, if there is one, changes that node
  pub ChangesNode-write : (change : Node I → Node I) (old new : Slab (Node I)) (from : Option ℕ) (place : ℕ) → from ≡ Some place → ContainsKey old place
      → ((node : Node I) → get old place ≡ Some node → new ≡ with_value old place (change node)) → ChangesNode change old new from
  ChangesNode-write change old new from place is present written =
      let found = value_at old place present in
      rw (is, written found.0 found.1) (ChangesNode-with_value change old place found.0 found.1)
