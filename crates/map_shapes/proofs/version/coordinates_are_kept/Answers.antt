use Rattle.map_shapes.proofs.Versions.{kept_of_coordinate, coordinate_of_kept}
use Rattle.map_shapes.proofs.version.coordinates_are_kept.Goals as goal

pub returns-clause-kept : goal.returns-clause-kept
returns-clause-kept c = kept_of_coordinate

pub returns-clause-coordinate : goal.returns-clause-coordinate
returns-clause-coordinate c = coordinate_of_kept
