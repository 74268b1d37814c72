-- An index that a layer of points is given.
use Rattle.std.proofs.Common.{◌≡◌, ◌∙◌, ℕ, ◌+◌, Bool, true, false, not, List, [], ◌∷◌, ◌++◌, None, Result, Ok, Err, length, refl, sym, ap, subst, append_assoc}
use Rattle.std.specs.Prelude.{IfOk, OnErr}
use Rattle.std.specs.Option.{is_some}
use Rattle.std.specs.Result.{is_ok}
use Rattle.builder_trait.specs.Parts.{Contents}
use Rattle.id_chain.specs.Chain.{Entry}
use Rattle.layer_kinds.specs.Indexing.{Placed, Absent, Whole, Late, is_there, wait_in, begun}
use Rattle.layer_kinds.specs.Layered.{Layered, items_of}
use Rattle.layer_kinds.specs.Memory.{Memory, memories_of}
use Rattle.layer_kinds.proofs.Items.{as_many_items}
use Rattle.map_model.specs.Index as indexes
use Rattle.map_model.specs.Index.{has}
use Rattle.map_model.specs.Shape.{Kind}
use Rattle.map_model.specs.State.{Item, with_wait}
use Rattle.layer_kinds.specs.declared.faults.Standing.{Standing}
use Rattle.map_layers.specs.Layer.{Held, set_of, layer_seen, IsBegun}
use Rattle.map_layers.specs.Memory.{HasOneMore, AddsMemory}
use Rattle.map_indexes.specs.Held.{parts_held}
use Rattle.map_indexes.specs.IndexesLaws.{there-held}

-- no memory
abbrev pub no_memory : Memory
no_memory = record { parts = []; unwalked = None }

module _ (P : Type 0) {I : Type 0} where
  -- it is there
  pub begun-held : (es : List (Entry I)) → is_some (parts_held (begun {P = P} es)) ≡ true
  begun-held [] = refl
  begun-held (e ∷ es) = refl

  -- it waits for all items
  pub begun-waits : (item_of : I → Item) (es : List (Entry I)) → wait_in (begun {P = P} es) ≡ length (items_of item_of es)
  begun-waits item_of [] = refl
  begun-waits item_of (e ∷ es) = sym (as_many_items item_of (e ∷ es))

module _ {P I : Type 0} where
  -- it has no memory
  begun-memory : (contents : P → Contents I) (es : List (Entry I)) → memories_of contents (begun es) ≡ no_memory ∷ []
  begun-memory contents [] = refl
  begun-memory contents (e ∷ es) = refl

  -- and had none before
  no_memory_before : (contents : P → Contents I) (p : Placed P I) → is_there p ≡ false → memories_of contents p ≡ []
  no_memory_before contents Absent none = refl
  no_memory_before contents (Whole i) none = absurd cc
  no_memory_before contents (Late l) none = absurd cc

  -- among the memories of others
  pub one_more_among : (contents : P → Contents I) (p : Placed P I) (es : List (Entry I)) (before behind : List Memory) → is_there p ≡ false
      → HasOneMore (before ++ (memories_of contents p ++ behind)) (before ++ (memories_of contents (begun es) ++ behind))
  one_more_among contents p es before behind none = record {
    before = before;
    behind = behind;
    were = ap (λ ms. before ++ (ms ++ behind)) (no_memory_before contents p none);
    are = ap (λ ms. before ++ (ms ++ behind)) (begun-memory contents es);
  }

  pub one_more_last : (contents : P → Contents I) (p : Placed P I) (es : List (Entry I)) (a b : List Memory) → is_there p ≡ false
      → HasOneMore (a ++ (b ++ memories_of contents p)) (a ++ (b ++ memories_of contents (begun es)))
  one_more_last contents p es a b none = record {
    before = a ++ b;
    behind = [];
    were = ap (λ ms. a ++ (b ++ ms)) (no_memory_before contents p none) ∙ sym (append_assoc a b []);
    are = ap (λ ms. a ++ (b ++ ms)) (begun-memory contents es) ∙ sym (append_assoc a b (no_memory ∷ []));
  }

-- whether it was there
was_there : (there ok : Bool) → ok ≡ not there → there ≡ not ok
was_there true ok is = ap not (sym is)
was_there false ok is = ap not (sym is)

module _ {X P I : Type 0} (old new : Layered X I) (place : Placed P I) (put : Placed P I → X → X) {T : Type 0} where
  -- an index is put in its place, or refused where it is there
  pub record IsPut (r : Result T Standing) : Type 0 where
    pub refused : is_ok r ≡ not (is_there place)
    pub put_in : IfOk r (λ _. new ≡ record old { indexes = put (begun old.entries) old.indexes })
    pub kept : OnErr r (new ≡ old)

  pub same_limit : (r : Result T Standing) → IsPut r → new.most_items ≡ old.most_items
  same_limit (Ok done) h = ap (λ (l : Layered X I). l.most_items) h.put_in
  same_limit (Err standing) h = ap (λ (l : Layered X I). l.most_items) h.kept

  pub adds_memory : (memory : X → List Memory) → (is_there place ≡ false → HasOneMore (memory old.indexes) (memory (put (begun old.entries) old.indexes)))
      → (r : Result T Standing) → IsPut r → AddsMemory r (memory old.indexes) (memory new.indexes)
  adds_memory memory one (Ok done) h =
      subst (λ (l : Layered X I). HasOneMore (memory old.indexes) (memory l.indexes)) (sym h.put_in) (one (was_there (is_there place) true h.refused))
  adds_memory memory one (Err standing) h = ap (λ (l : Layered X I). memory l.indexes) h.kept

  module _ (kind : Kind) (item_of : I → Item) (held : X → Held) (i : indexes.Index) (there : has (set_of (held old.indexes)) i ≡ is_there place)
      (set : (q : Placed P I) → is_some (parts_held q) ≡ true → set_of (held (put q old.indexes)) ≡ indexes.with_index (set_of (held old.indexes)) i)
      (waits : (q : Placed P I) → (held (put q old.indexes)).waits ≡ with_wait (held old.indexes).waits i (wait_in q)) where
    pub is_begun : (r : Result T Standing) → IsPut r → IsBegun (layer_seen kind item_of held old) i (layer_seen kind item_of held new) r
    is_begun (Ok done) h =
        let q = begun old.entries in (
          there ∙ was_there (is_there place) true h.refused,
          ap (layer_seen kind item_of held) h.put_in ∙ (λ j. record {
            name = old.name;
            kind = kind;
            indexes = set q (begun-held P old.entries) j;
            waits = (waits q ∙ ap (with_wait (held old.indexes).waits i) (begun-waits P item_of old.entries)) j;
            inserted = old.adds;
            items = items_of item_of old.entries;
          }),
        )
    is_begun (Err standing) h = (there ∙ was_there (is_there place) false h.refused, ap (layer_seen kind item_of held) h.kept)
