use Rattle.answer_texts.specs.Lines.{IsSpaced}
use Rattle.answer_texts.proofs.AnswerLaws as answers
use Rattle.answer_texts.proofs.LineLemmas.{spaced_apart, spaced_frame, spaced_rows, spaced_word}
use Rattle.answer_texts.proofs.laws.words_stand_apart.Goals as goal

pub returns : goal.returns
returns c =
    record {
      asked = answers.asked IsSpaced spaced_word spaced_apart;
      polled = answers.polled IsSpaced spaced_word spaced_apart;
      released = answers.released IsSpaced spaced_word spaced_apart;
      submitted = answers.submitted IsSpaced spaced_word spaced_apart;
      sent = λ answer h. answers.sent IsSpaced spaced_word spaced_apart answer (spaced_frame answer h);
      received = answers.received IsSpaced spaced_word spaced_apart;
      cancelled = answers.cancelled IsSpaced spaced_word spaced_apart;
      collected = λ answer h. answers.collected IsSpaced spaced_word spaced_apart answer (spaced_rows answer h);
      ticked = answers.ticked IsSpaced spaced_word spaced_apart;
      stopped = answers.stopped IsSpaced spaced_word spaced_apart;
    }
