-- The rows as points are put, and as they begin to grow.
use Rattle.std.proofs.Common.{◌≡◌, ℕ, ◌+◌, ◌-◌, ◌*◌, ◌/◌, ◌^◌, ◌<◌, ◌≤◌, IsTrue, Bool, List, [], ◌∷◌, ◌++◌, length, map, All, refl, sym, ap, ◌∙◌, arith, subst, Some, slice_get, slice_index, ⊎_elim, inl}
use Rattle.std.specs.List.{range_with_len}
use Rattle.std.proofs.Math.Nat.{mul-le-mul_right, mul-le-mul_left}
use Rattle.std.proofs.Math.Pow.{pow_mono}
use Rattle.std.proofs.lemmas.Nat.{pow-add}
use Rattle.std.proofs.lemmas.Option.{slice_get_within, slice_get_cases}
use Rattle.std.proofs.lemmas.List.{map_push, length_push, get_or_default}
use Rattle.std.proofs.lemmas.List.FromFn.{length-range_with_len}
use Rattle.std.proofs.lemmas.List.Quantifiers.{all_pairs_push}
use Rattle.query_laws.specs.Orders.{before_in}
use Rattle.query_laws.specs.OrderLaws.{IsStrictTotalOrder-before_in}
use Rattle.query_laws.specs.declared.item.Order.{Order}
use Rattle.query_laws.specs.declared.item.Order.TheVariants.{First, Second}
use Rattle.query_laws.specs.StepLedger.{Entries}
use Rattle.builder_trait.specs.Parts.{IsRising}
use Rattle.builder_trait.specs.Builders.{Progress, IsUnderway, IsQuota, FitsFirst, FitsSecond, with_put, all_live}
use Rattle.builder_trait.proofs.Places.{length-reordered_le, length-placed, slice_get-placed}
use Rattle.map_shapes.specs.declared.point.Point.{Point}
use Rattle.row_blocks.specs.Heights.{height_of}
use Rattle.kd_tree.specs.declared.rows.KdRows.{KdRows}
use Rattle.kd_tree.specs.declared.sorting.Sorting.{Sorting}
use Rattle.kd_tree.specs.Heights.{depth_for, nodes_in}
use Rattle.kd_tree.specs.HeightLaws.{few_points, least_height, depth_low, depth_small, some_points, nodes-is, four-is, four_some}
use Rattle.kd_tree.specs.Growing.{IsPutting, IsGrowing}
use Rattle.kd_tree.proofs.Placings.{range-more}
use Rattle.kd_tree.proofs.NodeLemmas.{AreNodes-none}

abbrev pub before : Order → Point → Point → Bool
before = before_in (λ p. p.x) (λ p. p.y) (λ p. p.stamp)

module _ (b : Progress Point) (rows : KdRows) (putting : IsPutting b rows) where
  pub as_many : length rows.places.items ≡ length b.items
  as_many = ap length putting.order ∙ length-range_with_len 0 (length b.items)

  pub small_level : 2 ^ b.at_level ≤ 2 ^ 31
  small_level = few_points (2 ^ b.at_level) b.at_level putting.room.small (omega arith)

  -- there is room for one more point
  pub room_first : (item : Point) (place : ℕ) → FitsFirst (before First) b item place
      → (length rows.places.items < rows.places.capacity) × (length rows.places.items < 2 ^ 31)
  room_first item place fits = (omega (arith, as_many, fits.room, putting.room.places), omega (arith, as_many, fits.room, small_level))

  -- and for its place in the second order
  pub room_second : (item : Point) (place : ℕ) → IsUnderway before b → FitsSecond (before Second) b item place
      → (place < 2 ^ 31) × (length rows.sorting.by_y.items < rows.sorting.by_y.capacity)
  room_second item place underway fits =
      let placed : map (slice_get b.items) (b.places ++ place ∷ []) ≡ map Some (b.reordered ++ item ∷ []) =
      map_push (slice_get b.items) b.places place ∙ ap (λ l. l ++ slice_get b.items place ∷ []) underway.placed
      ∙ ap (λ o. map Some b.reordered ++ o ∷ []) fits.at_place ∙ sym (map_push Some b.reordered item) in
      let rising : IsRising (before Second) (b.reordered ++ item ∷ []) =
      all_pairs_push (λ x y. IsTrue (before Second x y)) b.reordered item underway.rising_reordered fits.after in
      let one : length (b.reordered ++ item ∷ []) ≤ length b.items =
      length-reordered_le b.items (b.reordered ++ item ∷ []) (b.places ++ place ∷ []) placed
      (IsStrictTotalOrder-before_in (λ (p : Point). p.x) (λ p. p.y) (λ p. p.stamp) Second) rising in (
        omega (arith, slice_get_within b.items place item fits.at_place, underway.few, small_level),
        omega (
          arith,
          one,
          ap length putting.sorting.by_y,
          length_push b.reordered item,
          length-placed b.items b.reordered b.places underway.placed,
          underway.few,
          putting.room.sorting.by_y,
        ),
      )

  -- with one more point
  pub IsPutting-first : (item : Point) (place : ℕ) (places : Entries ℕ) (sorting : Sorting) → FitsFirst (before First) b item place
      → places ≡ record rows.places { items = rows.places.items ++ length rows.places.items ∷ [] }
      → length sorting.counts.items ≡ (place + 8) / 8 → sorting ≡ record rows.sorting { counts = record rows.sorting.counts { items = sorting.counts.items } }
      → IsPutting (with_put First item place b) (record rows { places = places; sorting = sorting })
  IsPutting-first item place places sorting fits put counts kept = record {
    room = record {
      small = putting.room.small;
      places = ap (λ e. e.capacity) put ∙ putting.room.places;
      sorting = record { by_y = ap (λ s. s.by_y.capacity) kept ∙ putting.room.sorting.by_y; counts = ap (λ s. s.counts.capacity) kept ∙ putting.room.sorting.counts };
      leaves = putting.room.leaves;
      nodes = putting.room.nodes;
    };
    order = ap (λ e. e.items) put ∙ ap (λ l. l ++ length rows.places.items ∷ []) putting.order
        ∙ ap (λ n. range_with_len 0 (length b.items) ++ n ∷ []) as_many ∙ sym (range-more (length b.items))
        ∙ ap (range_with_len 0) (sym (length_push b.items item));
    sorting = record {
      by_y = ap (λ s. s.by_y.items) kept ∙ putting.sorting.by_y;
      counts = omega (arith, counts, fits.next_place, length_push b.items item);
      none = ap (λ s. s.level) kept ∙ putting.sorting.none;
    };
    live = putting.live;
    leaves = putting.leaves;
    nodes = putting.nodes;
    left = putting.left;
  }

  module _ (underway : IsUnderway before b) (complete : length b.reordered ≡ length b.items) where
    few_items : length b.items ≤ 2 ^ 31
    few_items = few_points (length b.items) b.at_level underway.small underway.few

    known : All (λ place. place < length b.items) b.places
    known k d within =
        let inside : k < length b.reordered = omega (arith, within, length-placed b.items b.reordered b.places underway.placed) in
        ⊎_elim
        (λ (x, below, at, read).
        omega (
          arith,
          get_or_default b.places k d 0 within,
          slice_get_within b.items (slice_index b.places k) x (slice_get-placed b.items b.reordered b.places underway.placed k x at),
        ))
        (λ (past, none). absurd (omega arith))
        (slice_get_cases b.reordered k).1

    pub IsGrowing-begun : (sorting : Sorting) (depth left : ℕ) → depth ≡ depth_for (length b.items)
        → sorting ≡ record rows.sorting { level = sorting.level; next = 0; counted = 0; by_first = sorting.by_first } → sorting.level < depth
        → left ≡ sorting.level * length b.items + length b.items + nodes_in depth
        → IsGrowing (all_live b) (record rows { sorting = sorting; depth = depth; filled = 0; level = 0; place = 0; left = left })
    IsGrowing-begun sorting depth left depth_is kept low left_is =
        let next : sorting.next ≡ 0 = ap (λ s. s.next) kept in
        let by_y : sorting.by_y.items ≡ b.places = ap (λ s. s.by_y.items) kept ∙ putting.sorting.by_y in
        let counts : length sorting.counts.items ≡ (length b.items + 7) / 8 = ap (λ s. length s.counts.items) kept ∙ putting.sorting.counts in
        let none : length rows.nodes.items ≡ 0 = ap length putting.nodes in
        let first : nodes_in (depth - 0) ≡ nodes_in depth = ap nodes_in (omega arith) in
        let no_order : List ℕ = rows.places.items in (
          record {
            room = record {
              small = putting.room.small;
              places = putting.room.places;
              sorting = record { by_y = ap (λ s. s.by_y.capacity) kept ∙ putting.room.sorting.by_y; counts = ap (λ s. s.counts.capacity) kept ∙ putting.room.sorting.counts };
              leaves = putting.room.leaves;
              nodes = putting.room.nodes;
            };
            few = underway.few;
            flags = refl;
            long = as_many;
            depth_is = depth_is;
            sorting = record {
              few = few_items;
              low = omega (arith, depth_is, depth_small (length b.items) few_items);
              long = ap length by_y ∙ length-placed b.items b.reordered b.places underway.placed ∙ complete;
              places = subst (All (λ place. place < length b.items)) (sym by_y) known;
              counts = λ some. omega (arith, counts, some);
              next = λ more. omega (arith, next, some_points (length b.items) (omega (arith, more, depth_is)));
            };
            filled_few = omega arith;
            unfilled = λ more. refl;
            leaves = putting.leaves;
            spots = record { each = λ j slot place p leaf small below stands item at. absurd (omega arith) };
            live = record { each = λ j slot leaf small at. absurd (let no : slice_get [] j ≡ Some leaf = sym (ap (λ l. slice_get l j) putting.live) ∙ at in cc) };
            no_nodes = λ less. (refl, refl);
            is_next = inl (omega arith, omega (arith, four_some (depth - 1 - 0)));
            next = omega (arith, none, first);
            nodes = AreNodes-none (all_live b) no_order depth rows.nodes.items;
          },
          omega (arith, left_is, next, none),
        )

-- all that a builder of this level may take: a turn for each point's flag, one for each level of the tree, and one for each node
pub IsQuota-begun : (n level : ℕ) → level < 32 → n ≤ 2 ^ level → IsQuota 4 12 level n (n + (depth_for n * n + nodes_in (depth_for n)))
IsQuota-begun n level small few =
    let low : height_of n ≤ level = least_height n level (omega (arith, few_points n level small few)) few in
    let twice : 2 * depth_for n ≤ level + 2 = omega (arith, depth_low n, low) in
    let levels : 2 * depth_for n * n ≤ (level + 2) * n = mul-le-mul_right n twice in
    let points : (level + 2) * n ≤ (level + 2) * 2 ^ level = mul-le-mul_left (level + 2) few in
    let high : 2 ^ (2 * depth_for n) ≤ 2 ^ (level + 2) = pow_mono {i = 2 * depth_for n} {j = level + 2} twice in
    let four : 2 ^ (level + 2) ≡ 4 * 2 ^ level = omega (arith, pow-add 2 level 2) in
    record {
      enough = omega arith;
      bounded = omega (arith, few, levels, points, high, four, nodes-is (depth_for n), four-is (depth_for n));
    }

pub IsQuota-left : (n level left : ℕ) → level < 32 → n ≤ 2 ^ level → left ≤ depth_for n * n + nodes_in (depth_for n) → IsQuota 4 12 level n (n + left)
IsQuota-left n level left small few most =
    record { enough = omega arith; bounded = omega (arith, (IsQuota-begun n level small few).bounded) }
