-- Answers in the caller's words.
use Rattle.std.proofs.Common.{◌≡◌, Result, Ok, Err, refl, sym, subst}
use Rattle.std.specs.Prelude.{ℤ, IfOk}
use Rattle.node_tree.specs.declared.faults.EvalFault.{EvalFault}
use Rattle.mspec_expr.specs.declared.kinds.EvalRefusal.{EvalRefusal}
use Rattle.mspec_expr.specs.declared.kinds.Range.{Range}
use Rattle.mspec_expr.specs.Fits.{IsIn}
use Rattle.mspec_eval.specs.Things.{told}

told_in : (r : Range) (found : Result ℤ EvalFault) → ((n : ℤ) → found ≡ Ok n → IsIn r n) → IfOk (told found) (λ n. IsIn r n)
told_in r (Ok n) h = h n refl
told_in r (Err fault) h = tt

pub answer_in : (r : Range) (found : Result ℤ EvalFault) (answer : Result ℤ EvalRefusal) → answer ≡ told found → ((n : ℤ) → found ≡ Ok n → IsIn r n) → IfOk answer (λ n. IsIn r n)
answer_in r found answer e h = let P : Result ℤ EvalRefusal → Type 0 = λ a. IfOk a (λ n. IsIn r n) in subst P (sym e) (told_in r found h)
