-- What a parse of the words gives an argument passed the parser of that argument.
use Rattle.std.proofs.Common.{zero, suc, ◌≡◌, ◌⊎◌, ◌∙◌, ◌<◌, ◌^◌, ◌==◌, ◌||◌, ap, ℕ, Bool, true, false, List, [], ◌∷◌, length, map, cond, drop, Option, Some, None, refl, sym, subst, inl, inr, arith, codes}
use Rattle.std.specs.Prelude.{option_map, slice_get, pos, slice_index_or, unwrap_or}
use Rattle.std.specs.List.{All}
use Rattle.std.specs.Borrow.{Bor}
use Rattle.std.specs.Str.{bytes_eq}
use Rattle.std.specs.Str.Parse.{starts_with_minus}
use Rattle.std.proofs.lemmas.Int.{ints}
use Rattle.std.proofs.lemmas.List.{get_or-map, length-map}
use Rattle.std.proofs.lemmas.Slice.Eq.{bytes_eq-Decides}
use Rattle.std.proofs.lemmas.List.Elements.{All-get_or}
use Rattle.clap.specs.Lexer.{without_minus}
use Rattle.clap.specs.Walk.{Rule, rule_of}
use Rattle.clap.specs.Simple.{App, app_of}
use Rattle.clap.specs.Facts.{args_of, groups_of, IsParsed, Entry, EntryPasses, PassesArg, HasReading, parser_of, parser_of_value}
use Rattle.clap.specs.Built.{IsParsedFrom, IsAuto, SameRules}
use Rattle.clap.specs.Matches.{matched_of, one_text, found_of, has_subcommand}
use Rattle.clap.specs.Values.{Accepts, IsSignedIn, read_as, reading_of}
use Rattle.clap.specs.declared.builder.arg.Arg.{Arg}
use Rattle.clap.specs.declared.builder.command.Command.{Command}
use Rattle.clap.specs.declared.builder.value_parser.Reading.{Reading}
use Rattle.clap.specs.declared.builder.value_parser.ValueParser.{ValueParser}
use Rattle.clap.specs.declared.builder.value_parser.ValueParser.TheVariants as vp
use Rattle.clap.specs.declared.parser.matches.ArgMatches.{ArgMatches}
use Rattle.clap.specs.declared.parser.matches.MatchedArg.{MatchedArg}
use Rattle.clap.proofs.CallerLemmas.{entry_by_id, same_rules_by_id}
use Rattle.clap.proofs.SimpleLemmas.{plain_fields, simple_groups, HasPlainFields}
use Rattle.std.specs.List.{list_all}
use Rattle.program_words.specs.Words.{livemap_app, ledger_rule, make_rule, size_rule}
use Rattle.program_words.specs.Reading.{HasValues, IsNumberBelow, IsFlag}

abbrev rules : List Rule
rules = ledger_rule ∷ make_rule ∷ size_rule ∷ []

-- the argument at a place is the one with this id and parser, and no flag of clap's own
record IsArgument (k : ℕ) (id : List ℕ) (q : ValueParser) : Type 0 where
  small : k < 3
  named : (r : Rule) → (slice_index_or rules k r).id ≡ id
  parser : (r : Rule) → (slice_index_or rules k r).parser ≡ Some q
  ignore_case : (r : Rule) → (slice_index_or rules k r).ignore_case ≡ false
  alone : (j : ℕ) (r : Rule) → j < 3 → bytes_eq (slice_index_or rules j r).id id ≡ true → j ≡ k
  is_named : id ≡ [] → ⊥
  own : (id ≡ codes "help") ⊎ (id ≡ codes "version") → ⊥

-- a value that passed a parser, as its getter reads it
record Value (q : ValueParser) (text : List ℕ) : Type 0 where
  written : List ℕ
  reads : text ≡ read_as (reading_of q) written
  accepted : Accepts false q written

some_is : {X : Type 0} (x y : X) → Some x ≡ Some y → x ≡ y
some_is {X} x y e = ap (λ (o : Option X). unwrap_or o x) e

module _ (old : Command) (is : app_of old ≡ livemap_app) (m : ArgMatches) (p : IsParsedFrom old m) where
  fields : HasPlainFields old
  fields = plain_fields old (ap (λ a. a.top.is_plain) is)

  no_groups : groups_of p.built ≡ []
  no_groups = (p.from.same_groups (simple_groups old (ap (λ (a : App). list_all (λ (r : Rule). r.is_simple) a.top.rules) is))).1 ∙ fields.groups

  parsed : IsParsed p.built (found_of m) (has_subcommand m)
  parsed = p.parsed (p.from.globals ∙ fields.globals)

  rules_are : map rule_of (args_of old) ≡ rules
  rules_are = ap (λ a. a.top.rules) is

  three : length (args_of old) ≡ 3
  three = sym (length-map (args_of old) rule_of) ∙ ap length rules_are

  rule_at : (k : ℕ) (d : Arg) → k < 3 → rule_of (slice_index_or (args_of old) k d) ≡ slice_index_or rules k (rule_of d)
  rule_at k d lt = sym (get_or-map rule_of (args_of old) k d (rule_of d) (omega (arith, three)))
      ∙ ap (λ (l : List Rule). slice_index_or l k (rule_of d)) rules_are

  module _ (k : ℕ) (id : List ℕ) (q : ValueParser) (known : IsArgument k id q) where
    id_at : (d : Arg) → (slice_index_or (args_of old) k d).id.now ≡ id
    id_at d = ap (λ (r : Rule). r.id) (rule_at k d known.small) ∙ known.named (rule_of d)

    unique : (d : Arg) (j : ℕ) (e : Arg) → j < length (args_of old)
        → bytes_eq (slice_index_or (args_of old) j e).id.now (slice_index_or (args_of old) k d).id.now ≡ true → j ≡ k
    unique d j e lt same =
        let small : j < 3 = omega (arith, three) in
        known.alone j (rule_of e) small (rw (sym (ap (λ (r : Rule). r.id) (rule_at j e small)), sym (id_at d)) same)

    not_own : (d : Arg) → IsAuto (slice_index_or (args_of old) k d) → ⊥
    not_own d own = known.own (subst (λ (w : List ℕ). (w ≡ codes "help") ⊎ (w ≡ codes "version")) (id_at d) own)

    rules_of_built : (j : ℕ) (x : Arg) → j < length (args_of p.built) → slice_index_or (args_of p.built) j x ≡ x
        → bytes_eq x.id.now id ≡ true → SameRules (slice_index_or (args_of old) k x) x
    rules_of_built j x lt at same =
        same_rules_by_id old m p k x (omega (arith, three, known.small)) (unique x) (not_own x) j x lt at
        (rw (id_at x) same)

    parser_is : (x : Arg) → SameRules (slice_index_or (args_of old) k x) x → parser_of x ≡ q
    parser_is x s = ap parser_of_value (s.parser q (ap (λ (r : Rule). r.parser) (rule_at k x known.small) ∙ known.parser (rule_of x)))

    case_is : (x : Arg) → SameRules (slice_index_or (args_of old) k x) x → x.ignore_case ≡ false
    case_is x s = s.ignore_case ∙ ap (λ (r : Rule). r.ignore_case) (rule_at k x known.small) ∙ known.ignore_case (rule_of x)

    reading_is : (r : Reading) → HasReading p.built id r → r ≡ reading_of q
    reading_is r h = sym h.4.1 ∙ ap reading_of (parser_is h.1 (rules_of_built h.0 h.1 h.2 h.3 h.4.0))

    accepts : (value : List ℕ) → PassesArg p.built id value → Accepts false q value
    accepts value h =
        let s = rules_of_built h.0 h.1 h.2 h.3 h.4.0 in
        let by_q : Accepts h.1.ignore_case q value = subst (λ (w : ValueParser). Accepts h.1.ignore_case w value) (parser_is h.1 s) h.4.1 in
        subst (λ (b : Bool). Accepts b q value) (case_is h.1 s) by_q

    first_value_is : (how : Reading) (vs : List (Bor (List ℕ))) (text : List ℕ) → how ≡ reading_of q → All (λ v. PassesArg p.built id v.now) vs
        → option_map (λ s. read_as how s.now) (slice_get vs 0) ≡ Some text → Value q text
    first_value_is how [] text by all found = cc
    first_value_is how (v ∷ vs) text by all found = record {
      written = v.now;
      reads = sym (some_is _ _ found) ∙ ap (λ (h : Reading). read_as h v.now) by;
      accepted = accepts v.now (All-get_or (λ w. PassesArg p.built id w.now) (v ∷ vs) 0 v (omega arith) all);
    }

    entry_gives : (x : MatchedArg) (e : Entry) (text : List ℕ) → e.1 ≡ x → e.0.now ≡ id → EntryPasses p.built e
        → option_map (λ s. read_as x.reading s.now) (slice_get x.vals.items 0) ≡ Some text → Value q text
    entry_gives x e text same key passes found =
        let no_group : e.1.is_group ≡ true → ⊥ = λ g. elim (passes.3 g) [
          | inl empty ↦ known.is_named (sym key ∙ empty)
          | inr lots ↦ let bad : 0 < 0 = rw no_groups at lots in absurd (omega arith)
        ] in
        let all : All (λ v. PassesArg p.built id v.now) x.vals.items = elim passes.0 [
          | inl g ↦ absurd (no_group g)
          | inr vals ↦ subst (λ (w : List ℕ). All (λ v. PassesArg p.built w v.now) x.vals.items) key (rw same at vals)
        ] in
        let how : e.1.reading ≡ reading_of q = elim passes.4 [
          | inl g ↦ absurd (no_group g)
          | inr h ↦ reading_is e.1.reading (subst (λ (w : List ℕ). HasReading p.built w e.1.reading) key h)
        ] in
        first_value_is x.reading x.vals.items text (ap (λ (y : MatchedArg). y.reading) (sym same) ∙ how) all found

    value_of : (text : List ℕ) → one_text (found_of m) id ≡ Some text → Value q text
    value_of text given = go (matched_of (found_of m) id) refl given
      where
        go : (o : Option MatchedArg) → matched_of (found_of m) id ≡ o → one_text (found_of m) id ≡ Some text → Value q text
        go None e h = let bad : None ≡ Some text = rw e at h in cc
        go (Some x) e h =
            let got = entry_by_id (EntryPasses p.built) (found_of m).entries.items id x parsed.values e in
            entry_gives x got.0 text got.1 ((bytes_eq-Decides got.0.0.now id).0 got.2) got.3 (rw e at h)

-- ---- the three arguments

ledger_known : IsArgument 0 (codes "ledger") vp.Bool
ledger_known = record {
  small = omega arith;
  named = λ r. refl;
  parser = λ r. refl;
  ignore_case = λ r. refl;
  alone = alone;
  is_named = λ e. let bad : 6 ≡ 0 = ap length e in absurd (omega arith);
  own = λ auto. elim auto [
    | inl h ↦ let bad : 6 ≡ 4 = ap length h in absurd (omega arith)
    | inr h ↦ let bad : 6 ≡ 7 = ap length h in absurd (omega arith)
  ];
}
  where
    alone : (j : ℕ) (r : Rule) → j < 3 → bytes_eq (slice_index_or rules j r).id (codes "ledger") ≡ true → j ≡ 0
    alone zero r lt same = refl
    alone (suc zero) r lt same = cc
    alone (suc (suc zero)) r lt same = cc
    alone (suc (suc (suc j))) r lt same = absurd (omega arith)

make_known : IsArgument 1 (codes "make") (vp.Unsigned 0 18446744073709551615)
make_known = record {
  small = omega arith;
  named = λ r. refl;
  parser = λ r. refl;
  ignore_case = λ r. refl;
  alone = alone;
  is_named = λ e. let bad : 4 ≡ 0 = ap length e in absurd (omega arith);
  own = λ auto. elim auto [
    | inl h ↦ let bad : 109 ≡ 104 = ap (λ t. slice_index_or t 0 0) h in absurd (omega arith)
    | inr h ↦ let bad : 4 ≡ 7 = ap length h in absurd (omega arith)
  ];
}
  where
    alone : (j : ℕ) (r : Rule) → j < 3 → bytes_eq (slice_index_or rules j r).id (codes "make") ≡ true → j ≡ 1
    alone zero r lt same = cc
    alone (suc zero) r lt same = refl
    alone (suc (suc zero)) r lt same = cc
    alone (suc (suc (suc j))) r lt same = absurd (omega arith)

size_known : IsArgument 2 (codes "size") (vp.Signed (pos 1) (pos 65536))
size_known = record {
  small = omega arith;
  named = λ r. refl;
  parser = λ r. refl;
  ignore_case = λ r. refl;
  alone = alone;
  is_named = λ e. let bad : 4 ≡ 0 = ap length e in absurd (omega arith);
  own = λ auto. elim auto [
    | inl h ↦ let bad : 115 ≡ 104 = ap (λ t. slice_index_or t 0 0) h in absurd (omega arith)
    | inr h ↦ let bad : 4 ≡ 7 = ap length h in absurd (omega arith)
  ];
}
  where
    alone : (j : ℕ) (r : Rule) → j < 3 → bytes_eq (slice_index_or rules j r).id (codes "size") ≡ true → j ≡ 2
    alone zero r lt same = cc
    alone (suc zero) r lt same = cc
    alone (suc (suc zero)) r lt same = refl
    alone (suc (suc (suc j))) r lt same = absurd (omega arith)

without_minus-cond : (t : List ℕ) → without_minus t ≡ cond (starts_with_minus t) (drop 1 t) t
without_minus-cond [] = refl
without_minus-cond (x ∷ xs) = go (x == 45)
  where
    go : (b : Bool) → unwrap_or (cond b (Some xs) None) (x ∷ xs) ≡ cond b xs (x ∷ xs)
    go true = refl
    go false = refl

-- a number from 1 on has no minus
size_reads : (written : List ℕ) → IsSignedIn (pos 1) (pos 65536) written → IsNumberBelow (2 ^ 32) (without_minus written)
size_reads written accepted = subst (IsNumberBelow (2 ^ 32)) (sym (without_minus-cond written)) (go (starts_with_minus written) refl)
  where
    go : (b : Bool) → starts_with_minus written ≡ b → IsNumberBelow (2 ^ 32) (cond b (drop 1 written) written)
    go true minus =
        let low = rw minus at accepted.2 in
        absurd (omega (arith, ints))
    go false minus =
        let high = rw minus at accepted.3 in
        (rw minus at accepted.0, omega (arith, ints))

pub values_fit : (old : Command) → app_of old ≡ livemap_app → (m : ArgMatches) → IsParsedFrom old m → HasValues m
values_fit old is m p = record {
  ledger = λ text given.
      let v = value_of old is m p 0 (codes "ledger") vp.Bool ledger_known text given in
      subst IsFlag (sym v.reads) (flag_reads v.written v.accepted);
  seed = λ text given.
      let v = value_of old is m p 1 (codes "make") (vp.Unsigned 0 18446744073709551615) make_known text given in
      subst (IsNumberBelow (2 ^ 64)) (sym v.reads) (v.accepted.0, v.accepted.1);
  size = λ text given.
      let v = value_of old is m p 2 (codes "size") (vp.Signed (pos 1) (pos 65536)) size_known text given in
      subst (IsNumberBelow (2 ^ 32)) (sym v.reads) (size_reads v.written v.accepted);
}
  where
    flag_reads : (written : List ℕ) → (bytes_eq written (codes "true") || bytes_eq written (codes "false")) ≡ true → IsFlag written
    flag_reads written accepted = go (bytes_eq written (codes "true")) refl
      where
        go : (b : Bool) → bytes_eq written (codes "true") ≡ b → IsFlag written
        go true e = inl ((bytes_eq-Decides written (codes "true")).0 e)
        go false e = inr ((bytes_eq-Decides written (codes "false")).0 (rw e at accepted))
