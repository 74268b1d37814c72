-- What is wrong with a line: a variant a step of reading it, in the order of the steps.
pub data LineFault : Type 0 where
  -- more than 256 bytes, or a byte that isn't printable
  Line : LineFault
  -- no command word
  Command : LineFault
  -- another number of words than the form has
  Fields : LineFault
  -- no name of a layer
  Name : LineFault
  -- a number that isn't one or more digits
  Number : LineFault
  -- a number past its limits
  Range : LineFault
  -- a lower end past its upper end
  Order : LineFault
  -- no kind of layer
  Kind : LineFault
  -- an index that the kind doesn't take, or one that stands twice
  Index : LineFault
