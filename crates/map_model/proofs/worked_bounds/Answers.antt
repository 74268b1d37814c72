use Rattle.std.proofs.Common.{refl}
use Rattle.map_model.specs.Cost.{greatest_level, batch_parts, batch_part_bound}
use Rattle.map_model.proofs.worked_bounds.Goals as goal

pub returns : goal.returns
unfolding greatest_level batch_parts batch_part_bound
returns c = record { from_0 = refl; from_3 = refl; before_3 = refl; from_11 = refl; before_11 = refl; from_27 = refl; before_27 = refl; from_59 = refl; before_59 = refl; from_123 = refl; before_123 = refl; from_251 = refl; before_251 = refl; from_507 = refl; before_507 = refl; from_1019 = refl; before_1019 = refl; from_2043 = refl; before_2043 = refl; from_4091 = refl; before_4091 = refl; from_8187 = refl; before_8187 = refl; from_16379 = refl; before_16379 = refl; from_32763 = refl; before_32763 = refl; from_65531 = refl; before_65531 = refl; near_alike = refl; top_alike = refl; stab_alike = refl; cross_from_0 = refl; cross_from_65531 = refl; both_turns = refl; both_marks = refl; joined_0 = refl; joined_1 = refl; joined_2 = refl; joined_3 = refl; joined_4 = refl; digits_0 = refl; digits_1 = refl; digits_3 = refl; digits_4 = refl; digits_65536 = refl; ones_3 = refl; ones_4 = refl; ones_65535 = refl }
