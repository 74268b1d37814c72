-- One more place in words.
use Rattle.std.specs.Prelude.{◌≡◌, ◌≢◌, ℕ, ◌+◌, ◌*◌, ◌/◌, ◌<◌, ◌≤◌, ◌++◌, ◌∷◌, [], Bool, if◌then◌else◌, List, length, slice_set}
use Rattle.query_laws.specs.StepLedger.{Entries}
use Rattle.rank_rows.specs.declared.word.Word.{Word}
use Rattle.rank_rows.specs.declared.store.Store.{Store}
use Rattle.rank_rows.specs.Words.{word_at, second_at, dead_at}

-- no bit is set from the n-th on
pub record IsClearFrom (n : ℕ) (words : List Word) : Type 0 where
  pub second : (k : ℕ) → n ≤ k → second_at words k ≡ 0
  pub dead : (k : ℕ) → n ≤ k → dead_at words k ≡ 0

-- what a word has of the places before it, and of those that died
pub record IsSameBefore (old new : Word) : Type 0 where
  pub ones : new.ones ≡ old.ones
  pub weight : new.weight ≡ old.weight
  pub died : new.died ≡ old.died

-- the word of the n-th place has it: an old one, or a new one, which has so many set bits and so much weight before it
pub record IsWordPut (n : ℕ) (second : Bool) (ones weight : ℕ) (old new : Entries Word) : Type 0 where
  pub entries : length new.items ≡ n / 64 + 1
  pub room : new.capacity ≡ old.capacity
  pub own : second_at new.items n ≡ (if second then 1 else 0)
  pub others : (k : ℕ) → k ≢ n → second_at new.items k ≡ second_at old.items k
  pub dead : (k : ℕ) → dead_at new.items k ≡ dead_at old.items k
  pub kept : (e : ℕ) → e < length old.items → IsSameBefore (word_at old.items e) (word_at new.items e)
  pub opened : (e : ℕ) → n ≡ 64 * e → IsSameBefore (record { second = 0; dead = 0; ones = ones; weight = weight; died = record { count = 0; weight = 0 } }) (word_at new.items e)

pub record IsPut (second : Bool) (weight ones before : ℕ) (old new : Store) : Type 0 where
  pub word : IsWordPut (length old.weights.items) second ones before old.words new.words
  pub weights : new.weights.items ≡ old.weights.items ++ weight ∷ []
  pub room : new.weights.capacity ≡ old.weights.capacity

-- the place at k is dead, and weighs nothing
pub record IsKilled (k : ℕ) (old new : Store) : Type 0 where
  pub own : dead_at new.words.items k ≡ 1
  pub others : (j : ℕ) → j ≢ k → dead_at new.words.items j ≡ dead_at old.words.items j
  pub second : (j : ℕ) → second_at new.words.items j ≡ second_at old.words.items j
  pub kept : (e : ℕ) → IsSameBefore (word_at old.words.items e) (word_at new.words.items e)
  pub entries : length new.words.items ≡ length old.words.items
  pub room : new.words.capacity ≡ old.words.capacity
  pub weights : new.weights ≡ record old.weights { items = slice_set old.weights.items k 0 }
