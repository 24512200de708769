use Rattle.answer_texts.specs.Lines.{IsFeedless}
use Rattle.answer_texts.proofs.AnswerLaws as answers
use Rattle.answer_texts.proofs.LineLemmas.{feedless_apart, feedless_frame, feedless_rows, feedless_word}
use Rattle.answer_texts.proofs.laws.answers_are_lines.Goals as goal

pub returns : goal.returns
returns c =
    record {
      asked = answers.asked IsFeedless feedless_word feedless_apart;
      polled = answers.polled IsFeedless feedless_word feedless_apart;
      released = answers.released IsFeedless feedless_word feedless_apart;
      submitted = answers.submitted IsFeedless feedless_word feedless_apart;
      sent = λ answer. answers.sent IsFeedless feedless_word feedless_apart answer (feedless_frame answer);
      received = answers.received IsFeedless feedless_word feedless_apart;
      cancelled = answers.cancelled IsFeedless feedless_word feedless_apart;
      collected = λ answer. answers.collected IsFeedless feedless_word feedless_apart answer (feedless_rows answer);
      ticked = answers.ticked IsFeedless feedless_word feedless_apart;
      stopped = answers.stopped IsFeedless feedless_word feedless_apart;
    }
