-- `widen_tables` meets its contract: the union is reduced, no document is derived, or the result is drafted.
use Rattle.theory.proofs.Tables.RoomierLimits.{within_large}
use Rattle.reader.proofs.TableFoundLaws.{held_roomier, some_roomier}
use Rattle.reducing.proofs.LeavingLaws.{starts_small}
use Rattle.steps.specs.Widened.{Widens}
use Rattle.steps.proofs.UnionLaws as laws
use borrow.Author.Rules.{rules}
use Rattle.steps.proofs.widen.widen_tables.Goals as goal

pub unite_tables-union-requires : goal.unite_tables-union-requires
unite_tables-union-requires c =
    let (p, q, words, draft) = c.requires in
    (some_roomier (within_large c.args.limits) p, some_roomier (within_large c.args.limits) q)

pub fruitful_pairs-requires : goal.fruitful_pairs-requires
fruitful_pairs-requires c =
    let (p, q, words, draft) = c.requires in
    let big = within_large c.args.limits in
    (laws.seen_viewed (c.unite_tables-union.ensures p.table q.table (held_roomier big p.held) (held_roomier big q.held)), words)

pub fruitful_lists-lists-requires : goal.fruitful_lists-lists-requires
fruitful_lists-lists-requires c =
    let (p, q, words, draft) = c.requires in
    let big = within_large c.args.limits in
    let seen = c.unite_tables-union.ensures p.table q.table (held_roomier big p.held) (held_roomier big q.held) in
    (seen.rules.few, search rules)

pub start_pairs-requires : goal.start_pairs-requires
start_pairs-requires c =
    let (p, q, words, draft) = c.requires in
    let big = within_large c.args.limits in
    let seen = c.unite_tables-union.ensures p.table q.table (held_roomier big p.held) (held_roomier big q.held) in
    let known = c.fruitful_pairs.ensures _ seen.rules in
    let lists = c.fruitful_lists-lists.ensures _ _ _ seen.rules known in
    (laws.listed_both lists, starts_small (held_roomier big p.held), starts_small (held_roomier big q.held), search rules)

pub returns-then-is_empty : goal.returns-then-is_empty
unfolding Widens
returns-then-is_empty c g h p q =
    let big = within_large c.args.limits in
    let seen = c.unite_tables-union.ensures g h (held_roomier big p) (held_roomier big q) in
    let known = c.fruitful_pairs.ensures _ seen.rules in
    let lists = c.fruitful_lists-lists.ensures _ _ _ seen.rules known in
    let are = c.start_pairs.ensures _ _ g h (held_roomier big p) (held_roomier big q) lists in
    laws.none_started c.args.limits p q c.args.kind _ are c.load.ensures c.is_empty.ensures c.if-is_empty.true

pub pairs_left-requires : goal.pairs_left-requires
pairs_left-requires c =
    let (p, q, words, draft) = c.requires in
    let big = within_large c.args.limits in
    let seen = c.unite_tables-union.ensures p.table q.table (held_roomier big p.held) (held_roomier big q.held) in
    let known = c.fruitful_pairs.ensures _ seen.rules in
    let lists = c.fruitful_lists-lists.ensures _ _ _ seen.rules known in
    (laws.seen_viewed seen, laws.listed_both lists, search rules)

pub widen_reduced-requires : goal.widen_reduced-requires
widen_reduced-requires c =
    let (p, q, words, draft) = c.requires in
    let big = within_large c.args.limits in
    let seen = c.unite_tables-union.ensures p.table q.table (held_roomier big p.held) (held_roomier big q.held) in
    let known = c.fruitful_pairs.ensures _ seen.rules in
    let lists = c.fruitful_lists-lists.ensures _ _ _ seen.rules known in
    let are = c.start_pairs.ensures _ _ p.table q.table (held_roomier big p.held) (held_roomier big q.held) lists in (
      record {
        first = p.table;
        second = q.table;
        reduced = laws.reduced c.args.limits p.held q.held seen lists are (c.pairs_left.ensures.0 _ seen.rules lists are) c.pairs_left.ensures.1 c.load.ensures c.is_empty.ensures c.if-is_empty.false;
      },
      search rules,
      draft,
    )

pub returns : goal.returns
returns c g h p q =
    let big = within_large c.args.limits in
    let seen = c.unite_tables-union.ensures g h (held_roomier big p) (held_roomier big q) in
    let known = c.fruitful_pairs.ensures _ seen.rules in
    let lists = c.fruitful_lists-lists.ensures _ _ _ seen.rules known in
    let are = c.start_pairs.ensures _ _ g h (held_roomier big p) (held_roomier big q) lists in
    c.widen_reduced.ensures g h
    (laws.reduced c.args.limits p q seen lists are (c.pairs_left.ensures.0 _ seen.rules lists are) c.pairs_left.ensures.1 c.load.ensures c.is_empty.ensures c.if-is_empty.false)
