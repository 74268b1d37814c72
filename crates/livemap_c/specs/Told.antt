-- What a text tells as a sink.
use Rattle.std.specs.Prelude.{Some, None}
use Rattle.map_io.specs.SinkTold.{SinkTold}
use Rattle.livemap_c.specs.declared.text.Text.{Text}

-- its bytes, and how often memory was lacking
abbrev pub told_of : Text → SinkTold
told_of text = record { written = Some text.bytes.items; pieces = None; faults = text.faults }
