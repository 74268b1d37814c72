use Rattle.std.proofs.Common.{◌∙◌, ap, sym}
use Rattle.map_model.specs.Words.{words}
use Rattle.map_shapes.specs.Version.{version_of}
use Rattle.script_lang.specs.Form.{verb_of, form_of}
use Rattle.script_lang.proofs.Walk.{few_coordinates, Begins, walked_words, walk_line}
use Rattle.script_lang.proofs.reading.read_line.Goals as goal

pub read_numbers-requires : goal.read_numbers-requires
read_numbers-requires c = few_coordinates c.in-Some-find_form.form.now c.in-Some-find_form.ensures.row

pub returns-in_default-split_name-clause-said : goal.returns-in_default-split_name-clause-said
returns-in_default-split_name-clause-said c =
    let f = c.in-Some-find_form.form.now in
    let begins : Begins c.args.line.now c.in-Some.word.now (words c.in-Some.rest.now) f = record {
      front = c.in-Some.ensures.first;
      told = sym c.starts_with.ensures.value ∙ c.if-starts_with.false;
      verb = c.in-Some-find_form.ensures.verb;
      row = c.in-Some-find_form.ensures.row;
    } in
    walk_line (version_of c.args.version) _ _ _ f _ begins c.in_default-split_name.ensures

pub returns-in_default-read_numbers-clause-said : goal.returns-in_default-read_numbers-clause-said
returns-in_default-read_numbers-clause-said c =
    let f = c.in-Some-find_form.form.now in
    let begins : Begins c.args.line.now c.in-Some.word.now (words c.in-Some.rest.now) f = record {
      front = c.in-Some.ensures.first;
      told = sym c.starts_with.ensures.value ∙ c.if-starts_with.false;
      verb = c.in-Some-find_form.ensures.verb;
      row = c.in-Some-find_form.ensures.row;
    } in
    ap (walked_words (verb_of f.verb) (form_of f) c.in-Some-split_name.name.now) c.in_default-read_numbers.ensures
    ∙ walk_line (version_of c.args.version) _ _ _ f _ begins c.in-Some-split_name.ensures

pub returns-clause-said : goal.returns-clause-said
returns-clause-said c =
    let f = c.in-Some-find_form.form.now in
    let begins : Begins c.args.line.now c.in-Some.word.now (words c.in-Some.rest.now) f = record {
      front = c.in-Some.ensures.first;
      told = sym c.starts_with.ensures.value ∙ c.if-starts_with.false;
      verb = c.in-Some-find_form.ensures.verb;
      row = c.in-Some-find_form.ensures.row;
    } in
    ap (walked_words (verb_of f.verb) (form_of f) c.in-Some-split_name.name.now) c.in-Some-read_numbers.ensures
    ∙ walk_line (version_of c.args.version) _ _ _ f _ begins c.in-Some-split_name.ensures
