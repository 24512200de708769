-- Where definitions and whole descriptions stop.
use Rattle.std.proofs.Common.{ℕ, ◌≡◌, ◌≤◌, Bool, true, false, List, [], ◌∷◌, codes, Option, None, Ok, Err, length, refl, subst, arith}
use Rattle.mspec_tree.specs.declared.words.Place.{Place}
use Rattle.mspec_tree.specs.declared.words.ByteOrder.{ByteOrder}
use Rattle.mspec_tree.specs.declared.defs.Param.{Param}
use Rattle.mspec_tree.specs.declared.defs.Def.{Def}
use Rattle.mspec_tree.specs.declared.defs.DefBody.TheVariants as def
use Rattle.mspec_tree.specs.declared.defs.Description.{Description}
use Rattle.mspec_lexer.specs.Lexemes.{Lexeme}
use Rattle.mspec_lexer.specs.declared.tokens.Symbol.TheVariants as sign
use Rattle.mspec_grammar.specs.declared.faults.ParseWhy.TheVariants.{Unexpected}
use Rattle.mspec_grammar.specs.Meanings.{Meaning, Number, Sign, Taken, Name}
use Rattle.mspec_quotes.specs.Machine.{Stopped}
use Rattle.mspec_parser.specs.declared.words.Mark.TheVariants as mark
use Rattle.mspec_parser.specs.declared.words.DefWord.{DefWord}
use Rattle.mspec_parser.specs.declared.words.DefWord.TheVariants as def_word
use Rattle.mspec_parser.specs.declared.definitions.Head.{Head}
use Rattle.mspec_parser.specs.Readers.{◌>>=◌, one, begins_with, front_of, is_word, mark_at}
use Rattle.mspec_parser.specs.Small.{params_at, order_at, constant_at}
use Rattle.mspec_parser.specs.Defs.{constants_at, pick_def, head_at, enum_head_at, def_of, type_from, discriminated_from, data_io_from, enum_from, def_from, def_at, defs_at, ended, description_at}
use Rattle.mspec_parser.proofs.LeftWords.{Rest, Might, Left, a_field, a_type, a_way, a_call, nothing-in-quotes}
use Rattle.mspec_parser.proofs.Stops.{Stop, Good, Bars, opens, stopped}
use Rattle.mspec_parser.proofs.Behave.{Law, nothing, Apart, in-first, Starts, starts-then, Blocks, blocks-nothing, blocks-start, blocks-gives, blocks-wider, blocks-then, one-law, gives-law, then-law}
use Rattle.mspec_parser.proofs.Rows.{many-law, blocks-many}
use Rattle.mspec_parser.proofs.Picks.{def-proper}
use Rattle.mspec_parser.proofs.SmallLaws.{mark-plain, mark-law, mark-starts, name-law, simple-law, params-law, order_word, orders, order-law, order-blocks, bracket, constant-law, constant-starts}
use Rattle.mspec_parser.proofs.FieldLaws.{closing, closing-law, fields-law, fields-blocks, switch-law, switch-starts, members-law, members-blocks}

bracket-nothing : Apart bracket nothing
bracket-nothing m h = refl

bracket-orders : Apart bracket orders
bracket-orders (Sign sign.LeftParenthesis) h = absurd (cc)
bracket-orders (Sign s) h = refl
bracket-orders (Number n) h = refl
bracket-orders (Taken w) h = refl
bracket-orders (Name w) h = absurd (cc)

bracket-opens : Apart bracket opens
bracket-opens (Sign sign.LeftParenthesis) h = absurd (cc)
bracket-opens (Sign s) h = refl
bracket-opens (Number n) h = refl
bracket-opens (Taken w) h = refl
bracket-opens (Name w) h = refl

-- ---- heads

abbrev made_head : List ℕ × Place → List Param → Option ByteOrder → Head
made_head named params order = record { named = named.1; name = named.0; params = params; order = order }

head-law : Law true orders (λ limit xs. head_at xs)
unfolding head_at
head-law =
    then-law (name-law nothing)
    (λ named. then-law params-law
    (λ params. then-law order-law (λ order. gives-law orders (made_head named params order)) (λ order. blocks-gives orders (made_head named params order)))
    (λ params. blocks-wider (in-first opens (is_word order_word)) (blocks-then order-blocks (λ order. blocks-gives opens (made_head named params order)))))
    (λ named. blocks-nothing orders (λ limit xs. params_at xs >>= λ params. order_at params.1 >>= λ order. Ok (made_head named params.0 order.0, order.1)))

enum_head-law : Law true opens (λ limit xs. enum_head_at xs)
unfolding enum_head_at
enum_head-law =
    then-law (name-law nothing)
    (λ named. then-law params-law (λ params. gives-law opens (made_head named params None)) (λ params. blocks-gives opens (made_head named params None)))
    (λ named. blocks-nothing opens (λ limit xs. params_at xs >>= λ params. Ok (made_head named params.0 None, params.1)))

-- ---- definitions

type_from-law : (left : Place) → Law true nothing (λ limit xs. type_from limit left xs)
unfolding type_from
type_from-law left =
    then-law head-law
    (λ head. then-law fields-law (λ fields. closing-law nothing (def_of left head (def.Plain fields))) (λ fields. closing nothing (def_of left head (def.Plain fields)) refl))
    (λ head. blocks-then (fields-blocks orders bracket-orders) (λ fields. closing nothing (def_of left head (def.Plain fields)) refl))

discriminated_from-law : (left : Place) → Law true nothing (λ limit xs. discriminated_from limit left xs)
unfolding discriminated_from
discriminated_from-law left =
    then-law head-law
    (λ head. then-law members-law (λ fields. closing-law nothing (def_of left head (def.Switched fields))) (λ fields. closing nothing (def_of left head (def.Switched fields)) refl))
    (λ head. blocks-then (members-blocks orders bracket-orders) (λ fields. closing nothing (def_of left head (def.Switched fields)) refl))

data_io_from-law : (left : Place) → Law true nothing (λ limit xs. data_io_from limit left xs)
unfolding data_io_from
data_io_from-law left =
    then-law head-law
    (λ head. then-law (switch-law nothing) (λ switch. closing-law nothing (def_of left head (def.DataIo switch))) (λ switch. closing nothing (def_of left head (def.DataIo switch)) refl))
    (λ head. blocks-start (starts-then (switch-starts orders false refl) (λ switch limit xs. mark_at mark.RightBracket xs >>= λ right. Ok (def_of left head (def.DataIo switch), right.1))) nothing)

constants-law : Law false bracket (λ limit xs. constants_at xs)
unfolding constants_at
constants-law = many-law bracket (mark-plain mark.LeftBracket) (λ limit xs. constant_at xs) constant-starts nothing (constant-law nothing) bracket-nothing

constants-blocks : Blocks opens opens (λ limit xs. constants_at xs)
unfolding constants_at
constants-blocks = blocks-many bracket (mark-plain mark.LeftBracket) (λ limit xs. constant_at xs) constant-starts opens (constant-law opens) bracket-opens

enum_from-law : (left : Place) → Law true nothing (λ limit xs. enum_from left xs)
unfolding enum_from
enum_from-law left =
    then-law (simple-law nothing)
    (λ base. then-law enum_head-law
    (λ head. then-law constants-law (λ constants. closing-law nothing (def_of left head (def.Enum base constants))) (λ constants. closing nothing (def_of left head (def.Enum base constants)) refl))
    (λ head. blocks-then constants-blocks (λ constants. closing nothing (def_of left head (def.Enum base constants)) refl)))
    (λ base. blocks-nothing nothing (λ limit xs. enum_head_at xs >>= λ head. constants_at head.1 >>= λ constants. mark_at mark.RightBracket constants.1 >>= λ right. Ok (def_of left head.0 (def.Enum base constants.0), right.1)))

def_from-law : (left : Place) (w : DefWord) → Law true nothing (λ limit xs. def_from limit left w xs)
def_from-law left def_word.Type = type_from-law left
def_from-law left def_word.DiscriminatedType = discriminated_from-law left
def_from-law left def_word.DataIo = data_io_from-law left
def_from-law left def_word.Enum = enum_from-law left

def-law : Law true nothing def_at
unfolding def_at
def-law =
    then-law (mark-law mark.LeftBracket nothing refl)
    (λ left. then-law (one-law pick_def nothing def-proper Unexpected refl) (λ w. def_from-law left w.0) (λ w. blocks-nothing nothing (λ limit xs. def_from limit left w.0 xs)))
    (λ left. blocks-nothing nothing (λ limit xs. one pick_def xs >>= λ w. def_from limit left w.0.0 w.1))

def-starts : Starts bracket true def_at
unfolding def_at
def-starts = starts-then (mark-starts mark.LeftBracket bracket true refl) (λ left limit xs. one pick_def xs >>= λ w. def_from limit left w.0.0 w.1)

defs-law : Law false bracket defs_at
unfolding defs_at
defs-law = many-law bracket (mark-plain mark.LeftBracket) def_at def-starts nothing def-law bracket-nothing

-- ---- the end

abbrev at_end : List Def → Rest
at_end defs limit xs = ended defs (front_of xs) xs

never-behind : (defs : List Def) (limit : ℕ) (m : Meaning) → Might (at_end defs) limit [] m → ⊥
never-behind defs limit m h = let e = h.is in cc

end-keeps : (defs : List Def) (limit : ℕ) (x : Lexeme) → Left (at_end defs) limit [] x → ⊥
end-keeps defs limit x (a_field w m) = never-behind defs limit (Name (codes "simple")) m
end-keeps defs limit x (a_type w m) = never-behind defs limit _ m
end-keeps defs limit x (a_way w m) = never-behind defs limit _ m
end-keeps defs limit x (a_call h q) = nothing-in-quotes q

end-stops : (defs : List Def) (limit : ℕ) (xs : List Lexeme) (f : Stopped) → at_end defs limit xs ≡ Err f → Stop (at_end defs) limit xs f
end-stops defs limit [] f e = absurd (cc)
end-stops defs limit (x ∷ rest) f e =
    let same : stopped Unexpected (x ∷ rest) ≡ f = cc in
    subst (λ (f : Stopped). Stop (at_end defs) limit (x ∷ rest) f) same (record {
      front = [];
      whole = refl;
      begins = record { more = []; tree = record { defs = defs }; is = refl };
      here = record {
        stays = λ more. refl;
        deep = λ e. absurd (cc);
        flat = λ n other low more d e. cc;
        going = λ e. cc;
        leaves = λ e. absurd (cc);
        keeps = λ e l. end-keeps defs limit x l;
      };
    })

end-good : (defs : List Def) (n : ℕ) → Good n (at_end defs)
end-good defs n = record {
  stops = λ limit low xs le f e. end-stops defs limit xs f e;
  some = λ limit low. record { more = []; tree = record { defs = defs }; is = refl };
}

end-bars : (defs : List Def) (go : Meaning → Bool) → Bars go (at_end defs)
end-bars defs go = record { is = λ limit xs d e. by-list limit xs d e }
  where
    by-list : (limit : ℕ) (xs : List Lexeme) (d : Description) → at_end defs limit xs ≡ Ok d → begins_with go xs ≡ false
    by-list limit [] d e = refl
    by-list limit (x ∷ xs) d e = absurd (cc)

-- Each stop of a description is where no text goes on.
pub description-stops : (limit : ℕ) → 1 ≤ limit → (xs : List Lexeme) (f : Stopped) → description_at limit xs ≡ Err f → Stop description_at limit xs f
unfolding description_at
description-stops limit low xs f e =
    (defs-law.good (length xs) (λ defs. at_end defs) (λ defs. end-good defs (length xs)) (λ defs. end-bars defs bracket)).stops limit low xs (omega arith) f e
