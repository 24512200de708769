use Rattle.std.proofs.Common.{rules, [], None, Some, inl, inr, refl}
use Rattle.std.proofs.lemmas.Result.{IfOk-weaker}
use Rattle.host_engine.specs.Preparing.{untaken}
use Rattle.host_engine.specs.Statuses.{number_of}
use Rattle.host_engine.specs.Tool.{Answers, said}
use Rattle.host_engine.proofs.StatusLemmas.{names_no_script, script_not_early}
use Rattle.host_engine.proofs.ToolLemmas.{untouched, shelf_alone, script_taken, script_tool, front_of_script}
use Rattle.host_engine.proofs.FileLemmas.{lacks_here, seen_by}
use Rattle.host_engine.proofs.CommandLemmas.{answer_tool}
use Rattle.host_engine.proofs.RunLemmas.{Adds-gathered, Adds-nothing}
use Rattle.host_engine.proofs.tool.run.Goals as goal

pub returns-then-is_replay-clause-run : goal.returns-then-is_replay-clause-run
returns-then-is_replay-clause-run g c =
    let words = c.args.words.now in
    let are = c.is_replay.ensures.0 c.if-is_replay.true in
    let shelf = shelf_alone words g.F.Shelf.counts_with (g.F.Shelf.seen c.args.files.now) None are in
    record {
      said = IfOk-weaker c.replay.result _ _
          (λ status s. (script_taken s.0 (Some s.1), said (Some s.1) (Answers s.2 s.3), record { from_files = shelf; from_input = s.4 }, script_tool words s.0 s.1 s.2 s.3 are s.5, s.6, s.7))
          c.replay.ensures.said;
      no_memory = λ e.
          let s = c.replay.ensures.no_memory e in
          (script_taken s.0 s.1, s.2, record { from_files = shelf; from_input = s.3 }, front_of_script words s.0 s.1 s.2 are s.4, s.5, s.6);
      cut = λ e.
          let s = c.replay.ensures.cut e in
          (script_taken s.0 s.1, s.2, record { from_files = shelf; from_input = s.3 }, front_of_script words s.0 s.1 s.2 are s.4, s.5);
      out_failed = c.replay.ensures.fault;
      out_well = c.replay.ensures.no_fault;
      files = search rules;
    }

pub returns-then-is_replay-clause-untouched : goal.returns-then-is_replay-clause-untouched
returns-then-is_replay-clause-untouched g c =
    IfOk-weaker c.replay.result _ _ (λ status s early. absurd (script_not_early (Some s.1) s.3 (number_of status) early s.7)) c.replay.ensures.said

pub returns-then-is_replay-clause-lacking : goal.returns-then-is_replay-clause-lacking
returns-then-is_replay-clause-lacking g c =
    λ lacks. absurd (names_no_script c.args.words.now lacks.0 lacks.1 (c.is_replay.ensures.0 c.if-is_replay.true))

pub returns-then-is_replay-clause-file_alone : goal.returns-then-is_replay-clause-file_alone
returns-then-is_replay-clause-file_alone g c =
    λ command name over. absurd (names_no_script c.args.words.now name (inr (command, over)) (c.is_replay.ensures.0 c.if-is_replay.true))

pub returns-in-Some-clause-run : goal.returns-in-Some-clause-run
returns-in-Some-clause-run g c =
    let words = c.args.words.now in
    let command = c.in-Some.found.command in
    let name = c.in-Some.found.file_name.now in
    let over = c.in-Some.ensures in
    let before = g.F.Shelf.seen c.args.files.now in
    let after = g.F.Shelf.seen c.answer.new.files in
    let others = c.answer.ensures.others in
    let alone = untouched (g.S.Source.seen c.args.input.now) in
    let held = (g.K.Sink.seen c.args.out.now).held in
    let t0 = c.args.gathered.now.items in
    let t1 = c.answer.new.gathered.items in
    record {
      said = IfOk-weaker c.answer.result _ _
          (λ status s. (untaken s.0, said None s.1, record { from_files = seen_by words name g.F.Shelf.counts_with before after s.0 (inr (command, over)) s.2 others; from_input = alone }, answer_tool words command name s.0 s.1 over s.3, Adds-gathered held held t0 t1 (said None s.1).text refl s.4, s.5))
          c.answer.ensures.said;
      no_memory = λ e.
          let s = c.answer.ensures.no_memory e in
          (untaken s.0, [], record { from_files = seen_by words name g.F.Shelf.counts_with before after s.0 (inr (command, over)) s.1 others; from_input = alone }, inl refl, Adds-nothing held held t0 t1 refl s.2, inl refl);
      cut = λ e. absurd (c.answer.ensures.puts_nothing e);
      out_failed = λ e. absurd (c.answer.ensures.puts_nothing e);
      out_well = inr refl;
      files = c.answer.ensures.files;
    }

pub returns-in-Some-clause-lacking : goal.returns-in-Some-clause-lacking
returns-in-Some-clause-lacking g c =
    λ lacks. (refl, c.answer.ensures.lacking (lacks_here c.args.words.now (g.F.Shelf.seen c.args.files.now) c.in-Some.found.file_name.now (inr (c.in-Some.found.command, c.in-Some.ensures)) lacks))
