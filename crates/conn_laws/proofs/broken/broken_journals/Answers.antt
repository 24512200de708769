use Rattle.conn_laws.proofs.BrokenParts as parts
use Rattle.conn_laws.proofs.broken.broken_journals.Goals as goal

pub returns : goal.returns
returns c = record {
  settings = parts.in_ranges;
  answered = parts.answered;
  ends_twice = parts.ends_twice;
  answered_late = parts.answered_late;
  ends_another = parts.ends_another;
  ends_queued = parts.ends_queued;
  ends_unfit = parts.ends_unfit;
  draws_awaited = parts.draws_awaited;
  draws_live = parts.draws_live;
  draws_past = parts.draws_past;
  same_id = parts.same_id;
  sends_nothing = parts.sends_nothing;
  sends_twice = parts.sends_twice;
  sends_cancelled = parts.sends_cancelled;
  collects_live = parts.collects_live;
  collects_twice = parts.collects_twice;
  collects_as_expired = parts.collects_as_expired;
  stray_answer = parts.stray_answer;
  stray_late = parts.stray_late;
  late_for_none = parts.late_for_none;
  asks_closed = parts.asks_closed;
  closes_twice = parts.closes_twice;
  cancels_others = parts.cancels_others;
  wears_early = parts.wears_early;
}
