-- The places of words.
use Rattle.std.specs.Prelude.{ℕ, ◌*◌, ◌/◌, ◌%◌, List, slice_index_or}
use Rattle.std.specs.Int.{bit_at}
use Rattle.rank_rows.specs.declared.word.Word.{Word}
use Rattle.rank_rows.specs.Totals.{total}

-- what stands beyond the last word
abbrev pub no_word : Word
no_word = record { second = 0; dead = 0; ones = 0; weight = 0; died = record { count = 0; weight = 0 } }

abbrev pub word_at : List Word → ℕ → Word
word_at words e = slice_index_or words e no_word

-- one where the place goes into the second half of its block, and where it is dead
abbrev pub second_at : List Word → ℕ → ℕ
second_at words k = bit_at (word_at words (k / 64)).second (k % 64)

abbrev pub dead_at : List Word → ℕ → ℕ
dead_at words k = bit_at (word_at words (k / 64)).dead (k % 64)

-- what it weighs
abbrev pub weight_at : List ℕ → ℕ → ℕ
weight_at weights k = slice_index_or weights k 0

-- how many places are dead before a word, and what the places before it weigh
abbrev pub dead_before : List Word → ℕ → ℕ
dead_before words e = total (dead_at words) (64 * e)

abbrev pub weight_before : List ℕ → ℕ → ℕ
weight_before weights e = total (weight_at weights) (64 * e)
