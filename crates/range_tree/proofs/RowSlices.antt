-- Neighbouring positions of a row: what its bits tell of them, and which entries of the second order stand between the images of two positions.
use Rattle.std.proofs.Common.{◌≡◌, ℕ, ◌+◌, ◌-◌, ◌*◌, ◌^◌, ◌<◌, ◌≤◌, Bool, true, cond, nat_le, List, [], ◌∷◌, ◌++◌, length, length-append, length-take, length-drop, take, drop, map, min, slice_range, refl, sym, ap, ap₂, ◌∙◌, subst, arith}
use Rattle.std.specs.List.{count_by}
use Rattle.std.proofs.lemmas.List.{take-take, drop-drop, drop-take, drop_at, length-map}
use Rattle.std.proofs.lemmas.List.Elements.{filter-append}
use Rattle.std.proofs.lemmas.List.Sums.{length-filter, sum_by-cons}
use Rattle.std.proofs.Math.Seq.{take-add}
use Rattle.builder_trait.specs.Parts.{Contents}
use Rattle.row_blocks.specs.Blocks.{IsMultiple}
use Rattle.row_blocks.specs.Partitions.{block_of, is_in_block, IsInBlocks}
use Rattle.row_blocks.proofs.Lists.{slice_range-map, take-split, length-filter-take-le}
use Rattle.row_blocks.proofs.Partitioning.{start_of_is, from_in_block}
use Rattle.rank_rows.specs.Ranked.{Ranked, slice_of, place_at, how_many, rank, IsFront}
use Rattle.map_shapes.specs.declared.point.Point.{Point}
use Rattle.range_tree.specs.declared.growing.Carried.{Carried}
use Rattle.range_tree.specs.Tree.{AreRows, is_second}
use Rattle.range_tree.specs.Queries.{image_of}
use Rattle.range_tree.proofs.Images.{front-filter, rank-front, count_halves}

-- a slice of a slice
sliced : {A : Type 0} (xs : List A) (p n a b : ℕ) → a ≤ b → b ≤ n → slice_range xs (p + a) (p + b) ≡ slice_range (slice_range xs (p + 0) (p + n)) a b
sliced xs p n a b low high =
    let inner : p + n - (p + 0) ≡ n = omega arith in
    let zero : p ≡ p + 0 = omega arith in
    let many : (p + b) - (p + a) ≡ b - a = omega arith in
    let parted : a + (n - a) ≡ n = omega arith in
    let fits : b - a ≤ n - a = omega arith in
    ap (λ m. take m (drop (p + a) xs)) many
    ∙ sym (take-take (b - a) (n - a) (drop (p + a) xs) fits)
    ∙ ap (λ l. take (b - a) (take (n - a) l)) (sym (drop-drop a p xs))
    ∙ ap (take (b - a)) (sym (drop-take a (n - a) (drop p xs)))
    ∙ ap (λ m. take (b - a) (drop a (take m (drop p xs)))) (parted ∙ sym inner)
    ∙ ap (λ j. take (b - a) (drop a (take (p + n - (p + 0)) (drop j xs)))) zero

pub slice_of-part : {A : Type 0} (v : Ranked) (xs : List A) (row n a b : ℕ) (ys : List A) → slice_of v xs row 0 n ≡ ys → a ≤ b → b ≤ n
    → slice_of v xs row a b ≡ slice_range ys a b
slice_of-part v xs row n a b ys is low high = sliced xs (64 * (row * v.stride)) n a b low high ∙ ap (λ l. slice_range l a b) is

-- a slice in two
pub slice_range-append : {X : Type 0} (xs : List X) (from mid to : ℕ) → from ≤ mid → mid ≤ to
    → slice_range xs from to ≡ slice_range xs from mid ++ slice_range xs mid to
slice_range-append xs from mid to first second =
    let whole : to - from ≡ (mid - from) + (to - mid) = omega arith in
    let there : from + (mid - from) ≡ mid = omega arith in
    ap (λ n. take n (drop from xs)) whole ∙ take-add (mid - from) (to - mid) (drop from xs)
    ∙ ap (λ l. slice_range xs from mid ++ take (to - mid) l) (drop-drop (mid - from) from xs ∙ ap (λ n. drop n xs) there)

pub how_many-map : {A : Type 0} (f : A → Bool) (xs : List A) → how_many (map f xs) ≡ count_by f xs
how_many-map f [] = refl
how_many-map f (x ∷ xs) =
    omega (arith, sum_by-cons (λ (b : Bool). cond b 1 0) (f x) (map f xs), sum_by-cons (λ y. cond (f y) 1 0) x xs, how_many-map f xs)

-- the entries of a block in its two halves
pub length-halves : (k start : ℕ) (xs : List ℕ)
    → length (block_of (λ p. p) (k + 1) start xs) ≡ length (block_of (λ p. p) k start xs) + length (block_of (λ p. p) k (start + 2 ^ k) xs)
length-halves k start xs =
    omega (
      arith,
      length-filter (is_in_block (λ p. p) (k + 1) start) xs,
      length-filter (is_in_block (λ p. p) k start) xs,
      length-filter (is_in_block (λ p. p) k (start + 2 ^ k)) xs,
      count_halves (λ p. p) k start xs,
    )

-- a bit of a row tells the halves of a block apart
pub bit_tells : (k start : ℕ) → IsMultiple start (k + 1) → (x : ℕ) → is_in_block (λ p. p) (k + 1) start x ≡ true
    → is_second (k + 1) x ≡ nat_le (start + 2 ^ k) x
bit_tells k start multiple x inside =
    let both = from_in_block (λ p. p) (k + 1) start x inside in
    let lower : k + 1 - 1 ≡ k = omega arith in
    ap₂ (λ s j. nat_le (s + 2 ^ j) x) (start_of_is x multiple both.0 both.1) lower

module _ (whole row : List ℕ) (h start : ℕ) (blocks : IsInBlocks (λ p. p) whole h row) (multiple : IsMultiple start h) (there : start < length whole) where
  block_of-within : (n : ℕ) → length (block_of (λ p. p) h start (take n whole)) ≤ min (start + 2 ^ h) (length whole) - start
  block_of-within n =
      let end = min (start + 2 ^ h) (length whole) in
      omega (
        arith,
        length-filter-take-le (is_in_block (λ p. p) h start) whole n,
        ap length (blocks.blocks start multiple there),
        length-take (end - start) (drop start row),
      )

  pub image_within : (n : ℕ) → image_of whole h start n ≤ min (start + 2 ^ h) (length whole)
  image_within n = omega (arith, block_of-within n, there)

  -- a block of the row begins with what the block has of a front
  front_row : (n : ℕ) → take (length (block_of (λ p. p) h start (take n whole))) (drop start row) ≡ block_of (λ p. p) h start (take n whole)
  front_row n =
      let m = length (block_of (λ p. p) h start (take n whole)) in
      let end = min (start + 2 ^ h) (length whole) in
      sym (take-take m (end - start) (drop start row) (block_of-within n))
      ∙ ap (take m) (blocks.blocks start multiple there)
      ∙ front-filter (λ p. p) (is_in_block (λ p. p) h start) whole n

  -- between the images of two positions stands what the block has between them
  pub row_between : (low high : ℕ) → low ≤ high
      → slice_range row (image_of whole h start low) (image_of whole h start high) ≡ block_of (λ p. p) h start (slice_range whole low high)
  row_between low high ordered =
      let first : List ℕ = block_of (λ p. p) h start (take low whole) in
      let mid : List ℕ = block_of (λ p. p) h start (slice_range whole low high) in
      let parted : block_of (λ p. p) h start (take high whole) ≡ first ++ mid =
      ap (block_of (λ p. p) h start) (take-split whole low high ordered) ∙ filter-append (is_in_block (λ p. p) h start) (take low whole) (slice_range whole low high) in
      let a = length first in
      let c = length mid in
      let b = length (block_of (λ p. p) h start (take high whole)) in
      let sum : b ≡ a + c = ap length parted ∙ length-append first mid in
      let many : (start + b) - (start + a) ≡ c = omega (arith, sum) in
      ap (λ n. take n (drop (start + a) row)) many
      ∙ ap (take c) (sym (drop-drop a start row))
      ∙ sym (drop-take a c (drop start row))
      ∙ ap (λ n. drop a (take n (drop start row))) (sym sum)
      ∙ ap (drop a) (front_row high ∙ parted)
      ∙ drop_at first mid a refl

  pub rank_of-image : (k : ℕ) → h ≡ k + 1 → (n : ℕ)
      → count_by (is_second h) (slice_range row start (image_of whole h start n)) ≡ length (block_of (λ p. p) k (start + 2 ^ k) (take n whole))
  rank_of-image k is n =
      subst (λ g. IsInBlocks (λ p. p) whole g row → IsMultiple start g
      → count_by (is_second g) (slice_range row start (image_of whole g start n)) ≡ length (block_of (λ p. p) k (start + 2 ^ k) (take n whole)))
      (sym is)
      (λ parted begins. rank-front (λ p. p) (is_second (k + 1)) k start (bit_tells k start begins) whole row n parted begins there)
      blocks multiple

module _ (part : Contents Point) (height count : ℕ) (ranks : Ranked) (carried : List Carried) (rows : AreRows part height count ranks carried)
    (many : length part.places ≡ length part.items) (q : ℕ) (below : q < count) where
  -- the places of a row
  abbrev pub row_of : List ℕ
  row_of = rows.rows q

  pub blocks_of : IsInBlocks (λ p. p) part.places (height - q) (rows.rows q)
  blocks_of = rows.blocks q (omega arith)

  pub long : length (rows.rows q) ≡ length part.items
  long = omega (arith, blocks_of.as_many, many)

  pub rank_is : (a b : ℕ) → a ≤ b → b ≤ length part.items → rank ranks q a b ≡ count_by (is_second (height - q)) (slice_range (rows.rows q) a b)
  rank_is a b low high =
      let row = rows.each q below in
      ap how_many (slice_of-part ranks ranks.second q (length (rows.rows q)) a b (map (is_second (height - q)) (rows.rows q)) row.second low (omega (arith, long)) ∙ slice_range-map (is_second (height - q)) (rows.rows q) a b)
      ∙ how_many-map (is_second (height - q)) (slice_range (rows.rows q) a b)

  pub row_there : 0 < length part.items → place_at ranks q (length part.items) ≤ length ranks.second
  row_there some =
      let row = rows.each q below in
      let p = 64 * (q * ranks.stride) in
      let n = length (rows.rows q) in
      omega (
        arith,
        long,
        ap length row.second,
        length-map (rows.rows q) (is_second (height - q)),
        length-take (p + n - (p + 0)) (drop (p + 0) ranks.second),
        length-drop (p + 0) ranks.second,
      )

  module _ (start : ℕ) (multiple : IsMultiple start (height - q)) (there : start < length part.items) (tall : q + 6 < height) where
    placed : start < length part.places
    placed = omega (arith, many)

    pub IsFront-image : (n : ℕ) → IsFront ranks q start (image_of part.places (height - q) start n)
    IsFront-image n =
        let inside = image_within part.places (rows.rows q) (height - q) start blocks_of multiple placed n in
        let same = rows.same_height in
        record {
          block = subst (λ g. IsMultiple start (g - q)) (sym same) multiple;
          from = omega arith;
          below = subst (λ g. image_of part.places (height - q) start n ≤ start + 2 ^ (g - q)) (sym same) (omega (arith, inside));
          there = omega (arith, inside, many, row_there (omega arith));
          within = omega (arith, inside, many, rows.stride);
          high = omega (arith, same);
        }

    -- where an image stands in the halves of the block
    pub rank_of-front : (k : ℕ) → height - q ≡ k + 1 → (n : ℕ)
        → rank ranks q start (image_of part.places (height - q) start n) ≡ length (block_of (λ p. p) k (start + 2 ^ k) (take n part.places))
    rank_of-front k is n =
        let inside = image_within part.places (rows.rows q) (height - q) start blocks_of multiple placed n in
        rank_is start (image_of part.places (height - q) start n) (omega arith) (omega (arith, inside, many))
        ∙ rank_of-image part.places (rows.rows q) (height - q) start blocks_of multiple placed k is n

    pub first_image : (k : ℕ) → height - q ≡ k + 1 → (n from first : ℕ) → from ≡ image_of part.places (height - q) start n
        → first + rank ranks q start from ≡ from → first ≡ image_of part.places k start n
    first_image k is n from first image half =
        let whole : from ≡ image_of part.places (k + 1) start n = image ∙ ap (λ g. image_of part.places g start n) is in
        let ranked : rank ranks q start from ≡ length (block_of (λ p. p) k (start + 2 ^ k) (take n part.places)) =
        ap (rank ranks q start) image ∙ rank_of-front k is n in
        omega (arith, whole, ranked, half, length-halves k start (take n part.places))

    pub second_image : (k : ℕ) → height - q ≡ k + 1 → (n from second : ℕ) → from ≡ image_of part.places (height - q) start n
        → second ≡ start + 2 ^ k + rank ranks q start from → second ≡ image_of part.places k (start + 2 ^ k) n
    second_image k is n from second image half =
        let ranked : rank ranks q start from ≡ length (block_of (λ p. p) k (start + 2 ^ k) (take n part.places)) =
        ap (rank ranks q start) image ∙ rank_of-front k is n in
        omega (arith, ranked, half)
