-- The item that is kept beside a row.
use Rattle.std.proofs.Common.{◌≡◌, ℕ, ◌<◌, ◌∙◌, Option, Bool, true, List, [], ◌∷◌, ◌++◌, length, set, refl, ap, arith, Some, length-append}
use Rattle.std.specs.Prelude.{remove, slice_index_or}
use Rattle.std.specs.List.{AllZip, position, position_or_len}
use Rattle.std.proofs.lemmas.Bool.{lt-ltb}
use Rattle.conn_core.specs.HandedItems.{IsItemAt, item_has}
use Rattle.conn_core.specs.declared.answers.Sending.{Sending}
use Rattle.conn_core.specs.declared.handed.HandedIn.{HandedIn}
use Rattle.txn_core.specs.FirstPlaces.{Fails}

-- the first item that passes stands behind those that fail
first_len : {X : Type 0} (p : X → Bool) (xs : List X) (x : X) (ys : List X) → Fails p xs → p x ≡ true → position_or_len p (xs ++ x ∷ ys) ≡ length xs
first_len p [] x ys fails passes = rw passes refl
first_len p (z ∷ zs) x ys fails passes = rw fails.0 (rw (first_len p zs x ys fails.1 passes) (omega arith))

pub position_middle : {X : Type 0} (p : X → Bool) (xs : List X) (x : X) (ys : List X) → Fails p xs → p x ≡ true → position p (xs ++ x ∷ ys) ≡ Some (length xs)
position_middle p xs x ys fails passes =
    let long : length xs < length (xs ++ x ∷ ys) = omega (arith, length-append xs (x ∷ ys)) in
    rw (first_len p xs x ys fails passes, lt-ltb (length xs) (length (xs ++ x ∷ ys)) long) refl

-- a row in the middle, and its item
pub record IsSplit {A B : Type 0} (R : A → B → Type 0) (before : List A) (row : A) (after : List A) (items : List B) : Type 0 where
  pub items_before : List B
  pub item : B
  pub items_after : List B
  pub split : items ≡ items_before ++ item ∷ items_after
  pub zip_before : AllZip R before items_before
  pub here : R row item
  pub zip_after : AllZip R after items_after

split_more : {A B : Type 0} (R : A → B → Type 0) (x : A) (y : B) (before : List A) (row : A) (after : List A) (items : List B) → R x y → IsSplit R before row after items → IsSplit R (x ∷ before) row after (y ∷ items)
split_more R x y before row after items r s = record {
  items_before = y ∷ s.items_before;
  item = s.item;
  items_after = s.items_after;
  split = ap (λ zs. y ∷ zs) s.split;
  zip_before = (r, s.zip_before);
  here = s.here;
  zip_after = s.zip_after;
}

pub zip_split : {A B : Type 0} (R : A → B → Type 0) (before : List A) (row : A) (after : List A) (items : List B) → AllZip R (before ++ row ∷ after) items → IsSplit R before row after items
zip_split R [] row after [] h = absurd h
zip_split R [] row after (i ∷ is) h = record { items_before = []; item = i; items_after = is; split = refl; zip_before = tt; here = h.0; zip_after = h.1 }
zip_split R (x ∷ xs) row after [] h = absurd h
zip_split R (x ∷ xs) row after (i ∷ is) h = split_more R x i xs row after is h.0 (zip_split R xs row after is h.1)

pub zip_join : {A B : Type 0} (R : A → B → Type 0) (before : List A) (row : A) (after : List A) (xs : List B) (item : B) (ys : List B) → AllZip R before xs → R row item → AllZip R after ys → AllZip R (before ++ row ∷ after) (xs ++ item ∷ ys)
zip_join R [] row after [] item ys h r k = (r, k)
zip_join R [] row after (x ∷ xs) item ys h r k = absurd h
zip_join R (b ∷ bs) row after [] item ys h r k = absurd h
zip_join R (b ∷ bs) row after (x ∷ xs) item ys h r k = (h.0, zip_join R bs row after xs item ys h.1 r k)

pub set_middle : {X : Type 0} (xs : List X) (x y : X) (ys : List X) → set (xs ++ x ∷ ys) (length xs) y ≡ xs ++ y ∷ ys
set_middle [] x y ys = refl
set_middle (z ∷ zs) x y ys = ap (λ ws. z ∷ ws) (set_middle zs x y ys)

pub remove_middle : {X : Type 0} (xs : List X) (x : X) (ys : List X) → remove (xs ++ x ∷ ys) (length xs) ≡ xs ++ ys
remove_middle [] x ys = refl
remove_middle (z ∷ zs) x ys = ap (λ ws. z ∷ ws) (remove_middle zs x ys)

pub get_middle : {X : Type 0} (xs : List X) (x d : X) (ys : List X) → slice_index_or (xs ++ x ∷ ys) (length xs) d ≡ x
get_middle [] x d ys = refl
get_middle (z ∷ zs) x d ys = get_middle zs x d ys

-- the place of an item by its id
pub place_at : (items : List HandedIn) (id : ℕ) (before : List HandedIn) (item : HandedIn) (after : List HandedIn) → IsItemAt items id before item after → position (item_has id) items ≡ Some (length before)
place_at items id before item after h = ap (position (item_has id)) h.split ∙ position_middle (item_has id) before item after h.fails h.named

pub item_at : (items : List HandedIn) (id : ℕ) (before : List HandedIn) (item : HandedIn) (after : List HandedIn) (place : ℕ) (now : HandedIn) → IsItemAt items id before item after → place ≡ length before → now ≡ slice_index_or items place now → now ≡ item
item_at items id before item after place now h at value = value ∙ ap (λ n. slice_index_or items n now) at ∙ ap (λ xs. slice_index_or xs (length before) now) h.split ∙ get_middle before item now after

pub set_at : (items : List HandedIn) (id : ℕ) (before : List HandedIn) (item : HandedIn) (after : List HandedIn) (place : ℕ) (next : HandedIn) → IsItemAt items id before item after → place ≡ length before → set items place next ≡ before ++ next ∷ after
set_at items id before item after place next h at = ap (λ n. set items n next) at ∙ ap (λ xs. set xs (length before) next) h.split ∙ set_middle before item next after

pub some_same : {X : Type 0} (o : Option X) (x y : X) → o ≡ Some x → o ≡ Some y → x ≡ y
some_same o x y e f = cc

pub sending_same : (id r s : ℕ) (f g : List ℕ) → r ≡ s → f ≡ g → (let a : Sending = record { id = id; reference = r; frame = f } in a) ≡ (let b : Sending = record { id = id; reference = s; frame = g } in b)
sending_same id r s f g e h = cc

pub remove_at : (items : List HandedIn) (id : ℕ) (before : List HandedIn) (item : HandedIn) (after : List HandedIn) (place : ℕ) → IsItemAt items id before item after → place ≡ length before → remove items place ≡ before ++ after
remove_at items id before item after place h at = ap (remove items) at ∙ ap (λ xs. remove xs (length before)) h.split ∙ remove_middle before item after
