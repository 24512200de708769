-- The printed form of an expression by its outermost shape.
use Rattle.std.proofs.Common.{◌≡◌, ℕ, List, ◌++◌, false, sym, ap, ◌∙◌, append_assoc, append-nil}
use Rattle.std.specs.Prelude.{codes}
use Rattle.mspec_tree.specs.declared.words.Op.{Op}
use Rattle.mspec_tree.specs.declared.exprs.Expr.{Expr, fold-Expr, fold_out-Expr}
use Rattle.mspec_tree.specs.declared.exprs.Shape.{Shape, Shape-F, fold-roll-Shape, fold-Shape, map-Shape, roll-Shape}
use Rattle.mspec_tree.specs.declared.exprs.Shape.TheOpen as open_shape
use Rattle.mspec_tree.specs.declared.exprs.Shape.TheVariants as shape
use Rattle.mspec_lexer.specs.Spellings.{spelling}
use Rattle.mspec_lexer.specs.Tokens.{text_of}
use Rattle.mspec_printer.specs.Printed.{expr, form, Form, layer, operand, operator}
use Rattle.mspec_printer.proofs.WriteLaws.{text_of_both}

by_shape : (e : Expr) (s : Shape) (f : Shape-F Shape Expr) → e.shape ≡ s → roll-Shape f ≡ s → form e ≡ layer (map-Shape Shape Expr Form Form (fold-Shape Form Form layer (λ l. l.shape)) (fold-Expr Form Form layer (λ l. l.shape)) f)
by_shape e s f h rolls =
    fold_out-Expr Form Form layer (λ l. l.shape) e
    ∙ ap (λ (t : Shape). fold-Shape Form Form layer (λ l. l.shape) t) (h ∙ sym rolls)
    ∙ fold-roll-Shape Form Form layer (λ l. l.shape) f

text_by : (e : Expr) (one : Form) → form e ≡ one → text_of (expr e) ≡ text_of one.pieces
text_by e one h = ap (λ (f : Form). text_of f.pieces) h

pub last_item : (e : Expr) → e.shape ≡ shape.LastItem → codes "lastItem" ≡ text_of (expr e)
last_item e h = sym (text_by e _ (by_shape e shape.LastItem open_shape.LastItem h shape.rolls-LastItem))

pub sum_bytes : (e : Expr) → e.shape ≡ shape.SumBytes → codes "SUM_BYTES" ≡ text_of (expr e)
sum_bytes e h = sym (text_by e _ (by_shape e shape.SumBytes open_shape.SumBytes h shape.rolls-SumBytes))

pub xor_bytes : (e : Expr) → e.shape ≡ shape.XorBytes → codes "XOR_BYTES" ≡ text_of (expr e)
xor_bytes e h = sym (text_by e _ (by_shape e shape.XorBytes open_shape.XorBytes h shape.rolls-XorBytes))

pub dot : (e of : Expr) (name : List ℕ) → e.shape ≡ shape.Dot of name → (text_of (operand (form of)) ++ codes ".") ++ name ≡ text_of (expr e)
dot e of name h =
    (simp (append_assoc, text_of_both, append-nil))
    ∙ sym (text_by e _ (by_shape e (shape.Dot of name) (open_shape.Dot of name) h (shape.rolls-Dot of name)))

pub length_of : (e of : Expr) → e.shape ≡ shape.LengthOf of → text_of (operand (form of)) ++ codes ".lengthInBytes" ≡ text_of (expr e)
length_of e of h =
    (simp (append_assoc, text_of_both, append-nil))
    ∙ sym (text_by e _ (by_shape e (shape.LengthOf of) (open_shape.LengthOf of) h (shape.rolls-LengthOf of)))

pub count : (e of : Expr) → e.shape ≡ shape.Count of → (codes "COUNT(" ++ text_of (expr of)) ++ codes ")" ≡ text_of (expr e)
count e of h =
    (simp (append_assoc, text_of_both, append-nil))
    ∙ sym (text_by e _ (by_shape e (shape.Count of) (open_shape.Count of) h (shape.rolls-Count of)))

pub cast : (e of : Expr) (name : List ℕ) → e.shape ≡ shape.Cast of name → (((codes "CAST(" ++ text_of (expr of)) ++ codes ", ") ++ name) ++ codes ")" ≡ text_of (expr e)
cast e of name h =
    (simp (append_assoc, text_of_both, append-nil))
    ∙ sym (text_by e _ (by_shape e (shape.Cast of name) (open_shape.Cast of name) h (shape.rolls-Cast of name)))

pub not_ : (e of : Expr) → e.shape ≡ shape.Not of → codes "!" ++ text_of (operand (form of)) ≡ text_of (expr e)
not_ e of h = sym (text_by e _ (by_shape e (shape.Not of) (open_shape.Not of) h (shape.rolls-Not of)))

pub negative : (e of : Expr) → e.shape ≡ shape.Neg of → codes "-" ++ text_of (operand (form of)) ≡ text_of (expr e)
negative e of h = sym (text_by e _ (by_shape e (shape.Neg of) (open_shape.Neg of) h (shape.rolls-Neg of)))

pub two : (e a b : Expr) (with : Op) → e.shape ≡ shape.Two with a b → (((text_of (operand (form a)) ++ codes " ") ++ spelling (operator with)) ++ codes " ") ++ text_of (operand (form b)) ≡ text_of (expr e)
two e a b with h =
    (simp (append_assoc, text_of_both, append-nil))
    ∙ sym (text_by e _ (by_shape e (shape.Two with a b) (open_shape.Two with a b) h (shape.rolls-Two with a b)))

pub condition : (e c a b : Expr) → e.shape ≡ shape.If c a b → (((text_of (operand (form c)) ++ codes " ? ") ++ text_of (operand (form a))) ++ codes " : ") ++ text_of (operand (form b)) ≡ text_of (expr e)
condition e c a b h =
    (simp (append_assoc, text_of_both, append-nil))
    ∙ sym (text_by e _ (by_shape e (shape.If c a b) (open_shape.If c a b) h (shape.rolls-If c a b)))

by_test : (f : Form) → f.tight ≡ false → (codes "(" ++ text_of f.pieces) ++ codes ")" ≡ text_of (operand f)
by_test f h = rw h (simp (append_assoc, text_of_both, append-nil))

-- an operand in its parentheses
pub loose_operand : (e : Expr) → (form e).tight ≡ false → (codes "(" ++ text_of (expr e)) ++ codes ")" ≡ text_of (operand (form e))
loose_operand e h = by_test (form e) h
