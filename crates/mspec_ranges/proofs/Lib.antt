mod FaultLaws
mod JudgingLaws
mod PathLaws
mod SpanLaws
mod VerdictLaws
