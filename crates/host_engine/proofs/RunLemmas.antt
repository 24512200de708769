-- Bytes that go out step by step.
use Rattle.std.proofs.Common.{◌≡◌, ℕ, List, [], ◌++◌, Option, sym, ap, ◌∙◌, subst, append_assoc}
use Rattle.std.proofs.lemmas.List.{append-nil}
use Rattle.link_io.specs.Streams.{after_taking, after_taking-append, after_taking-nil}
use Rattle.host_engine.specs.Runs.{Adds, PutsFront}

regrouped : (a b c d e f g : List ℕ) → a ++ b ≡ c ++ d → e ++ f ≡ b ++ g → (a ++ e) ++ f ≡ c ++ (d ++ g)
regrouped a b c d e f g p q =
    append_assoc a e f ∙ ap (λ xs. a ++ xs) q ∙ sym (append_assoc a b g) ∙ ap (λ xs. xs ++ g) p ∙ append_assoc c d g

-- what was added, and then more
pub Adds-more : (h0 h1 h2 : Option (List ℕ)) (t0 t1 t2 a b : List ℕ) → Adds h0 h1 t0 t1 a → Adds h1 h2 t1 t2 b → Adds h0 h2 t0 t2 (a ++ b)
Adds-more h0 h1 h2 t0 t1 t2 a b x y = (
  x.0 ++ y.0,
  y.1 ∙ ap (after_taking y.0) x.1 ∙ sym (after_taking-append x.0 y.0 h0),
  regrouped x.0 t1 t0 a y.0 t2 b x.2 y.2,
)

-- what was added, and then a front of more
pub PutsFront-after : (h0 h1 h2 : Option (List ℕ)) (t0 t1 a b : List ℕ) → Adds h0 h1 t0 t1 a → PutsFront h1 h2 (t1 ++ b) → PutsFront h0 h2 (t0 ++ (a ++ b))
PutsFront-after h0 h1 h2 t0 t1 a b x y = (
  x.0 ++ y.0,
  y.1,
  regrouped x.0 t1 t0 a y.0 y.1 b x.2 y.2,
  y.3 ∙ ap (after_taking y.0) x.1 ∙ sym (after_taking-append x.0 y.0 h0),
)

-- what stayed so
pub Adds-same : (h0 h1 h2 : Option (List ℕ)) (t0 t1 t2 a : List ℕ) → Adds h0 h1 t0 t1 a → h2 ≡ h1 → t2 ≡ t1 → Adds h0 h2 t0 t2 a
Adds-same h0 h1 h2 t0 t1 t2 a x held gathered = (x.0, held ∙ x.1, ap (λ (xs : List ℕ). x.0 ++ xs) gathered ∙ x.2)

-- a front of the first part is a front of all
pub front_of_first : (h0 h1 : Option (List ℕ)) (a b : List ℕ) → PutsFront h0 h1 a → PutsFront h0 h1 (a ++ b)
front_of_first h0 h1 a b x =
    (x.0, x.1 ++ b, sym (append_assoc x.0 x.1 b) ∙ ap (λ xs. xs ++ b) x.2, x.3)

-- a front of the second part, behind the first
pub front_of_second : (h0 h1 h2 : Option (List ℕ)) (a b : List ℕ) → h1 ≡ after_taking a h0 → PutsFront h1 h2 b → PutsFront h0 h2 (a ++ b)
front_of_second h0 h1 h2 a b e x = (
  a ++ x.0,
  x.1,
  append_assoc a x.0 x.1 ∙ ap (λ xs. a ++ xs) x.2,
  x.3 ∙ ap (after_taking x.0) e ∙ sym (after_taking-append a x.0 h0),
)

-- all is a front of itself
pub front_of_all : (h0 h1 : Option (List ℕ)) (a : List ℕ) → h1 ≡ after_taking a h0 → PutsFront h0 h1 a
front_of_all h0 h1 a e = (a, [], append-nil a, e)

-- nothing was added
pub Adds-nothing : (h0 h1 : Option (List ℕ)) (t0 t1 : List ℕ) → h1 ≡ h0 → t1 ≡ t0 → Adds h0 h1 t0 t1 []
Adds-nothing h0 h1 t0 t1 held gathered =
    ([], held ∙ sym (after_taking-nil h0), gathered ∙ sym (append-nil t0))

-- all that was added is gathered
pub Adds-gathered : (h0 h1 : Option (List ℕ)) (t0 t1 a : List ℕ) → h1 ≡ h0 → t1 ≡ t0 ++ a → Adds h0 h1 t0 t1 a
Adds-gathered h0 h1 t0 t1 a held gathered = ([], held ∙ sym (after_taking-nil h0), gathered)

-- what was added, and then the rest of it with a last part, is out
pub all_out : (h0 h1 h2 : Option (List ℕ)) (t1 a last : List ℕ) → Adds h0 h1 [] t1 a → h2 ≡ after_taking (t1 ++ last) h1 → h2 ≡ after_taking (a ++ last) h0
all_out h0 h1 h2 t1 a last x e =
    e ∙ ap (after_taking (t1 ++ last)) x.1 ∙ sym (after_taking-append x.0 (t1 ++ last) h0)
    ∙ ap (λ (xs : List ℕ). after_taking xs h0) (sym (append_assoc x.0 t1 last) ∙ ap (λ xs. xs ++ last) x.2)

-- the same, where nothing was gathered before and the last part is empty
pub all_said : (h0 h1 h2 : Option (List ℕ)) (t0 t1 out a : List ℕ) → t0 ≡ [] → out ≡ t1 → Adds h0 h1 t0 t1 a → h2 ≡ after_taking (out ++ []) h1 → h2 ≡ after_taking a h0
all_said h0 h1 h2 t0 t1 out a none same x e =
    all_out h0 h1 h2 t1 a [] (subst (λ (t : List ℕ). Adds h0 h1 t t1 a) none x) (e ∙ ap (λ (xs : List ℕ). after_taking (xs ++ []) h1) same)
    ∙ ap (λ (xs : List ℕ). after_taking xs h0) (append-nil a)

pub last_said_too : (h0 h1 h2 : Option (List ℕ)) (t0 t1 out a last : List ℕ) → t0 ≡ [] → out ≡ t1 → Adds h0 h1 t0 t1 a → h2 ≡ after_taking (out ++ last) h1 → h2 ≡ after_taking (a ++ last) h0
last_said_too h0 h1 h2 t0 t1 out a last none same x e =
    all_out h0 h1 h2 t1 a last (subst (λ (t : List ℕ). Adds h0 h1 t t1 a) none x) (e ∙ ap (λ (xs : List ℕ). after_taking (xs ++ last) h1) same)

-- a front of what was left to put out, behind what was added
pub front_said : (h0 h1 h2 : Option (List ℕ)) (t0 t1 out a last : List ℕ) → t0 ≡ [] → out ≡ t1 → Adds h0 h1 t0 t1 a → PutsFront h1 h2 (out ++ last) → PutsFront h0 h2 (a ++ last)
front_said h0 h1 h2 t0 t1 out a last none same x y =
    PutsFront-after h0 h1 h2 [] t1 a last (subst (λ (t : List ℕ). Adds h0 h1 t t1 a) none x) (subst (λ (t : List ℕ). PutsFront h1 h2 (t ++ last)) same y)
