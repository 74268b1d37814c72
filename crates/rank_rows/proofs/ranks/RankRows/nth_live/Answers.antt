use Rattle.std.proofs.Common.{arith}
use Rattle.rank_rows.specs.Words.{no_word}
use Rattle.rank_rows.proofs.Selecting.{read_some, more_in, there, nth_in, more_bits}
use Rattle.rank_rows.proofs.ranks.RankRows.nth_live.Goals as goal

pub holder-held-requires-clause-within : goal.holder-held-requires-clause-within
holder-held-requires-clause-within g c = omega (arith, (read_some c.self.inside c.args.self.now c.self.view_is c.self.invariant c.args.row c.args.start c.args.to c.args.rank c.base-base.result c.requires.front c.requires.some c.base-base.ensures).word.within)

pub holder-held-requires-clause-nodes : goal.holder-held-requires-clause-nodes
holder-held-requires-clause-nodes g c = (read_some c.self.inside c.args.self.now c.self.view_is c.self.invariant c.args.row c.args.start c.args.to c.args.rank c.base-base.result c.requires.front c.requires.some c.base-base.ensures).word.nodes

pub holder-held-requires-clause-some : goal.holder-held-requires-clause-some
holder-held-requires-clause-some g c = more_in c.self.inside c.args.self.now c.self.view_is c.self.invariant c.args.row c.args.start c.args.to c.args.rank c.base-base.result c.requires.front c.requires.some c.base-base.ensures

pub at-word-requires : goal.at-word-requires
at-word-requires g c = there c.self.inside c.args.self.now c.self.view_is c.self.invariant c.args.row c.args.start c.args.to c.args.rank c.base-base.result c.requires.front c.requires.some c.base-base.ensures c.holder-held.result no_word c.holder-held.ensures.held

pub nth_clear-requires : goal.nth_clear-requires
nth_clear-requires g c = more_bits c.self.inside c.args.self.now c.self.view_is c.self.invariant c.args.row c.args.start c.args.to c.args.rank c.base-base.result c.requires.front c.requires.some c.base-base.ensures c.holder-held.result c.at-word.result c.holder-held.ensures.held c.at-word.ensures.read_or

pub returns-clause-from : goal.returns-clause-from
returns-clause-from g c =
    (nth_in c.self.inside c.args.self.now c.self.view_is c.self.invariant c.args.row c.args.start c.args.to c.args.rank c.base-base.result c.requires.front c.requires.some c.base-base.ensures c.holder-held.result c.at-word.result c.holder-held.ensures.held c.nth_clear.result c.at-word.ensures.read_or c.nth_clear.ensures.within c.nth_clear.ensures.clear
    c.nth_clear.ensures.ranked).from

pub returns-clause-within : goal.returns-clause-within
returns-clause-within g c =
    (nth_in c.self.inside c.args.self.now c.self.view_is c.self.invariant c.args.row c.args.start c.args.to c.args.rank c.base-base.result c.requires.front c.requires.some c.base-base.ensures c.holder-held.result c.at-word.result c.holder-held.ensures.held c.nth_clear.result c.at-word.ensures.read_or c.nth_clear.ensures.within c.nth_clear.ensures.clear
    c.nth_clear.ensures.ranked).within

pub returns-clause-live : goal.returns-clause-live
returns-clause-live g c =
    (nth_in c.self.inside c.args.self.now c.self.view_is c.self.invariant c.args.row c.args.start c.args.to c.args.rank c.base-base.result c.requires.front c.requires.some c.base-base.ensures c.holder-held.result c.at-word.result c.holder-held.ensures.held c.nth_clear.result c.at-word.ensures.read_or c.nth_clear.ensures.within c.nth_clear.ensures.clear
    c.nth_clear.ensures.ranked).live

pub returns-clause-ranked : goal.returns-clause-ranked
returns-clause-ranked g c =
    (nth_in c.self.inside c.args.self.now c.self.view_is c.self.invariant c.args.row c.args.start c.args.to c.args.rank c.base-base.result c.requires.front c.requires.some c.base-base.ensures c.holder-held.result c.at-word.result c.holder-held.ensures.held c.nth_clear.result c.at-word.ensures.read_or c.nth_clear.ensures.within c.nth_clear.ensures.clear
    c.nth_clear.ensures.ranked).ranked
