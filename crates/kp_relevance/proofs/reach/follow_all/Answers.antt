use Rattle.std.proofs.Common.{length}
use Rattle.kp_relevance.proofs.Searching.{grows_none, grows_on, next_found}
use Rattle.kp_relevance.proofs.reach.follow_all.Goals as goal

pub next-init : goal.next-init
next-init c = record { grows = grows_none (length c.args.rows.now) c.args.rows.now c.args.row.now c.requires.followed.wide; followed = c.requires.followed }

pub follow-requires-clause-next : goal.follow-requires-clause-next
follow-requires-clause-next c = next_found (length c.args.rows.now) c.args.rows.now c.next.row c.next.done c.in-Some.k c.next.invariant.followed c.in-Some.ensures.some

pub next-preserved : goal.next-preserved
next-preserved c = record {
  grows = grows_on (length c.args.rows.now) c.args.rows.now c.args.row.now c.next.row c.follow.new.row c.next.invariant.grows c.follow.ensures.grows;
  followed = c.follow.ensures.followed;
}
