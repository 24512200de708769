-- A front of a file's bytes that grows piece by piece.
use Rattle.std.proofs.Common.{◌≡◌, ℕ, ◌+◌, ◌≤◌, List, ◌++◌, length, take, drop, take-add, Bool, Option, Some, None, Ok, sym, ap, ◌∙◌, subst, arith}
use Rattle.std.specs.Bool.{IsTrue}
use Rattle.std.specs.Option.{IfSome}
use Rattle.std.specs.Result.{IsErr}
use Rattle.std.proofs.lemmas.Result.{IfOk-from_err}
use Rattle.std.proofs.lemmas.List.{take_all}
use Rattle.link_io.specs.declared.traits.Failed.{Failed}

pub front_more : (told : Option (List ℕ)) (text piece : List ℕ) (len n : ℕ) → IfSome told (λ bytes. text ≡ take len bytes) → IfSome told (λ bytes. piece ≡ take n (drop len bytes)) → IfSome told (λ bytes. text ++ piece ≡ take (len + n) bytes)
front_more None text piece len n front next = tt
front_more (Some bytes) text piece len n front next =
    ap (λ xs. xs ++ piece) front ∙ ap (λ xs. take len bytes ++ xs) next ∙ sym (take-add len n bytes)

-- what is a front and as long as all is all, however much was wanted
pub front_all : (told : Option (List ℕ)) (text : List ℕ) (len wanted : ℕ) → len ≤ wanted → IfSome told (λ bytes. text ≡ take len bytes) → IfSome told (λ bytes. length bytes ≤ len) → IfSome told (λ bytes. text ≡ take wanted bytes)
front_all None text len wanted h front end = tt
front_all (Some bytes) text len wanted h front end = front ∙ take_all len bytes end ∙ sym (take_all wanted bytes (omega (arith, end, h)))

-- a read that succeeded isn't that of a name without a file
pub no_read : (count : ℕ) (now first : Bool) → now ≡ first → (IsTrue now → IsErr {E = Failed} (Ok count)) → IsTrue first → ⊥
no_read count now first same lacking lacks =
    IfOk-from_err {E = Failed} (Ok count) (λ n. ⊥) (lacking (subst (λ (b : Bool). IsTrue b) (sym same) lacks))
