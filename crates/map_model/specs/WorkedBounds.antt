-- The bounds of one index, where a layer has so many live items, and of the parts that are joined at once, where so many were inserted.
use Rattle.std.specs.Prelude.{◌≡◌, [], true, codes}
use Rattle.map_model.specs.Index.{Range, Near, Top, Stab, Cross, no_indexes}
use Rattle.map_model.specs.Shape.{Segments}
use Rattle.map_model.specs.State.{Layer, no_waits}
use Rattle.map_model.specs.Cost.{Adds, rate_of, greatest_level, bounds_at, turn_bound, mark_bound, batch_parts, batch_part_bound, batch_turn_bound}

-- an empty layer of segments with both indexes
abbrev pub two_indexes : Layer
two_indexes = record {
  name = codes "s";
  kind = Segments;
  indexes = record no_indexes { stab = true; cross = true };
  waits = no_waits;
  inserted = 0;
  items = [];
}

-- the bounds, computed
pub record WorkedBounds : Type 0 where
  pub from_0 : bounds_at (rate_of Range) 0 ≡ record { level = 3; turns = 480; marks = 60; move_turns = 560; move_marks = 66; parts = 12 }
  pub from_3 : bounds_at (rate_of Range) 3 ≡ record { level = 4; turns = 672; marks = 78; move_turns = 784; move_marks = 86; parts = 15 }
  pub before_3 : greatest_level 2 ≡ 3
  pub from_11 : bounds_at (rate_of Range) 11 ≡ record { level = 5; turns = 888; marks = 96; move_turns = 1036; move_marks = 106; parts = 18 }
  pub before_11 : greatest_level 10 ≡ 4
  pub from_27 : bounds_at (rate_of Range) 27 ≡ record { level = 6; turns = 1128; marks = 114; move_turns = 1316; move_marks = 126; parts = 21 }
  pub before_27 : greatest_level 26 ≡ 5
  pub from_59 : bounds_at (rate_of Range) 59 ≡ record { level = 7; turns = 1392; marks = 132; move_turns = 1624; move_marks = 146; parts = 24 }
  pub before_59 : greatest_level 58 ≡ 6
  pub from_123 : bounds_at (rate_of Range) 123 ≡ record { level = 8; turns = 1680; marks = 150; move_turns = 1960; move_marks = 166; parts = 27 }
  pub before_123 : greatest_level 122 ≡ 7
  pub from_251 : bounds_at (rate_of Range) 251 ≡ record { level = 9; turns = 1992; marks = 168; move_turns = 2324; move_marks = 186; parts = 30 }
  pub before_251 : greatest_level 250 ≡ 8
  pub from_507 : bounds_at (rate_of Range) 507 ≡ record { level = 10; turns = 2328; marks = 186; move_turns = 2716; move_marks = 206; parts = 33 }
  pub before_507 : greatest_level 506 ≡ 9
  pub from_1019 : bounds_at (rate_of Range) 1019 ≡ record { level = 11; turns = 2688; marks = 204; move_turns = 3136; move_marks = 226; parts = 36 }
  pub before_1019 : greatest_level 1018 ≡ 10
  pub from_2043 : bounds_at (rate_of Range) 2043 ≡ record { level = 12; turns = 3072; marks = 222; move_turns = 3584; move_marks = 246; parts = 39 }
  pub before_2043 : greatest_level 2042 ≡ 11
  pub from_4091 : bounds_at (rate_of Range) 4091 ≡ record { level = 13; turns = 3480; marks = 240; move_turns = 4060; move_marks = 266; parts = 42 }
  pub before_4091 : greatest_level 4090 ≡ 12
  pub from_8187 : bounds_at (rate_of Range) 8187 ≡ record { level = 14; turns = 3912; marks = 258; move_turns = 4564; move_marks = 286; parts = 45 }
  pub before_8187 : greatest_level 8186 ≡ 13
  pub from_16379 : bounds_at (rate_of Range) 16379 ≡ record { level = 15; turns = 4368; marks = 276; move_turns = 5096; move_marks = 306; parts = 48 }
  pub before_16379 : greatest_level 16378 ≡ 14
  pub from_32763 : bounds_at (rate_of Range) 32763 ≡ record { level = 16; turns = 4848; marks = 294; move_turns = 5656; move_marks = 326; parts = 51 }
  pub before_32763 : greatest_level 32762 ≡ 15
  pub from_65531 : bounds_at (rate_of Range) 65531 ≡ record { level = 17; turns = 5352; marks = 312; move_turns = 6244; move_marks = 346; parts = 54 }
  pub before_65531 : greatest_level 65530 ≡ 16
  -- the other indexes of points and that of segments over a place have the rate of `range`, and `cross` has one of its own
  pub near_alike : rate_of Near ≡ rate_of Range
  pub top_alike : rate_of Top ≡ rate_of Range
  pub stab_alike : rate_of Stab ≡ rate_of Range
  pub cross_from_0 : bounds_at (rate_of Cross) 0 ≡ record { level = 3; turns = 2064; marks = 60; move_turns = 2408; move_marks = 66; parts = 12 }
  pub cross_from_65531 : bounds_at (rate_of Cross) 65531 ≡ record { level = 17; turns = 25080; marks = 312; move_turns = 29260; move_marks = 346; parts = 54 }
  pub both_turns : turn_bound Adds two_indexes ≡ 2544
  pub both_marks : mark_bound Adds two_indexes ≡ 120
  -- joined at once
  pub joined_0 : batch_turn_bound 0 ≡ 0
  pub joined_1 : batch_turn_bound 1 ≡ 8
  pub joined_2 : batch_turn_bound 2 ≡ 36
  pub joined_3 : batch_turn_bound 3 ≡ 54
  pub joined_4 : batch_turn_bound 4 ≡ 120
  pub digits_0 : batch_part_bound 0 ≡ 0
  pub digits_1 : batch_part_bound 1 ≡ 1
  pub digits_3 : batch_part_bound 3 ≡ 2
  pub digits_4 : batch_part_bound 4 ≡ 3
  pub digits_65536 : batch_part_bound 65536 ≡ 17
  pub ones_3 : batch_parts 3 ≡ 2
  pub ones_4 : batch_parts 4 ≡ 1
  pub ones_65535 : batch_parts 65535 ≡ 16
