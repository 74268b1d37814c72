-- The tree over the words of a block (Fenwick 1994): the word in the middle has what died in the first half, and so on in each half.
use Rattle.std.specs.Prelude.{◌≡◌, ℕ, zero, suc, ◌+◌, ◌*◌, ◌^◌, ◌<◌, ◌≤◌, List, length}
use Rattle.rank_rows.specs.declared.word.Word.{Word}
use Rattle.rank_rows.specs.declared.dead.Held.{Held}
use Rattle.rank_rows.specs.Words.{word_at, dead_before, weight_before}

-- how many are dead and what the places weigh before each word, as a tree has it
module _ (words : List Word) (dead weighs : ℕ → ℕ) where
  -- the word at a middle has what died from the word `start` on
  pub record IsNode (start middle : ℕ) : Type 0 where
    pub count : (word_at words middle).died.count + dead start ≡ dead middle
    pub weight : (word_at words middle).died.weight + weighs middle + (word_at words start).weight ≡ weighs start + (word_at words middle).weight

  -- the words of a block, as far as they stand before `end`
  unfoldable pub AreNodes : (start height end : ℕ) → Type 0
  AreNodes start zero end = Unit {0}
  AreNodes start (suc height) end =
      (start + 2 ^ height < end → IsNode start (start + 2 ^ height)) × AreNodes start height end × AreNodes (start + 2 ^ height) height end

-- a place of this weight dies in the word at `at`
pub record IsMarking (at lost : ℕ) (dead weighs dead' weighs' : ℕ → ℕ) : Type 0 where
  pub before : (e : ℕ) → e ≤ at → (dead' e ≡ dead e) × (weighs' e ≡ weighs e)
  pub after : (e : ℕ) → at < e → (dead' e ≡ dead e + 1) × (weighs' e + lost ≡ weighs e)
  pub few : (e : ℕ) → e ≤ 2 ^ 40 → dead' e < 2 ^ 64
  pub rising : (d e : ℕ) → d ≤ e → weighs' d ≤ weighs' e

-- the word with one more place of this weight that died before it in its block
abbrev pub with_dead : ℕ → Word → Word
with_dead lost word = record word { died = record { count = word.died.count + 1; weight = word.died.weight + lost } }

-- the same word, whatever died before it
pub record IsSameButDied (old new : Word) : Type 0 where
  pub second : new.second ≡ old.second
  pub dead : new.dead ≡ old.dead
  pub ones : new.ones ≡ old.ones
  pub weight : new.weight ≡ old.weight

-- a place of this weight can die in the word at `at`: the tree of its block stands, and what it will have fits
pub record IsReady (words : List Word) (start height end at lost : ℕ) : Type 0 where
  pub dead : ℕ → ℕ
  pub weighs : ℕ → ℕ
  pub dead' : ℕ → ℕ
  pub weighs' : ℕ → ℕ
  pub marking : IsMarking at lost dead weighs dead' weighs'
  pub nodes : AreNodes words dead weighs start height end

-- a word of a block, whose tree stands up to it
pub record IsWordOf (words : List Word) (weights : List ℕ) (first height at : ℕ) : Type 0 where
  pub from : first ≤ at
  pub block : at < first + 2 ^ height
  pub within : at < length words
  pub small : length words ≤ 2 ^ 40
  pub low : height ≤ 32
  pub nodes : AreNodes words (dead_before words) (weight_before weights) first height (at + 1)

-- more than `rank` places are live in the words from `start` on and before `last`
abbrev pub HasMore : (ℕ → ℕ) → (start last rank : ℕ) → Type 0
HasMore dead start last rank = rank + 64 * start + dead last < 64 * last + dead start

-- the word has the live place with `rank` live ones before it
pub record IsHolder (dead : ℕ → ℕ) (start last rank : ℕ) (held : Held) : Type 0 where
  pub from : start ≤ held.at
  pub within : held.at < last
  pub ranked : held.rest + 64 * held.at + dead start ≡ rank + 64 * start + dead held.at
  pub less : held.rest + dead (held.at + 1) < 64 + dead held.at
