-- The stages of a URL, from its end.
use Rattle.std.proofs.Common.{◌≡◌, ◌⊎◌, ℕ, ◌+◌, ◌<◌, List, [], ◌∷◌, ◌++◌, length, take, drop, refl, sym, ap, ◌∙◌, subst, inl, inr, arith, decimal, length-drop, zero, suc}
use Rattle.std.specs.List.{AllByRecursion, Contains}
use Rattle.std.proofs.lemmas.List.{append-nil}
use Rattle.tag_address.specs.declared.urls.Url.{Url}
use Rattle.tag_address.specs.declared.urls.Url.TheVariants.{Modbus}
use Rattle.tag_address.specs.declared.urls.UrlWord.{UrlWord}
use Rattle.tag_address.specs.declared.urls.UrlWord.TheVariants.{Scheme, UnitName}
use Rattle.tag_address.specs.Parts.{GoesOn, IsColon, IsNotLed, IsNumber, IsNumberAt, IsRead, IsStuck, IsStuckPart, IsWord, IsWordAt, Then}
use Rattle.tag_address.specs.UrlParts.{IsBehindHost, IsBehindPort, IsBehindPortColon, IsBehindQuery, IsBehindScheme, IsEnd, IsHostAt, IsHostText, IsWholeUrl, url_word}
use Rattle.tag_address.specs.Urls.{IsHost, IsHostByte}
use Rattle.tag_address.proofs.HostLaws.{host_found, no_host, only_host}
use Rattle.tag_address.proofs.Languages.{IsFull, IsOnlyFront, both_read, both_stuck, narrow_read, narrow_stuck, stop}
use Rattle.tag_address.proofs.NumberLaws.{IsDigit, only_number}
use Rattle.tag_address.proofs.StageLaws.{Never, never_led}
use Rattle.tag_address.proofs.WordLaws.{only_word}

-- the only word of a list of one
pub lone_word : (word other : UrlWord) → Contains (word ∷ []) other → other ≡ word
lone_word word other (zero, inside, h) = sym h
lone_word word other (suc k, inside, h) = absurd (omega (arith, inside))

-- ---- the unit

end_read : (url : Url) → IsRead (IsEnd url) [] url
end_read url = record { is = (refl, refl); only = λ other h. h.1 }

past_end : (url : Url) (text : List ℕ) → 0 < length text → IsStuck (IsEnd url) text 0
past_end url [] some = absurd (omega arith)
past_end url (b ∷ text) some = record {
  within = omega arith;
  front = ([], url, (refl, refl));
  next = λ inside h. let e : b ∷ h.0 ≡ [] = h.2.0 in cc;
  short = λ none v h. omega (arith, none);
}

unit_ends : (host : List ℕ) (port n : ℕ) (y : List ℕ) (url : Url) → IsEnd (Modbus host port n) y url → IsNotLed IsDigit y
unit_ends host port n y url h b r e digit = let both : b ∷ r ≡ [] = sym e ∙ h.0 in cc

only_unit : (host : List ℕ) (port : ℕ) (front : List ℕ) (unit : ℕ) → IsNumber 0 255 front unit → IsOnlyFront (IsNumber 0 255) (λ n. IsEnd (Modbus host port n)) (GoesOn unit 255) front unit
only_unit host port front unit h = only_number (λ n. IsEnd (Modbus host port n)) 0 255 front unit (omega arith) h (unit_ends host port)

unit_full : (host : List ℕ) (port : ℕ) → IsFull (IsNumber 0 255) (λ n. IsEnd (Modbus host port n))
unit_full host port x n h = ([], Modbus host port n, (refl, refl))

pub unit_read : (host : List ℕ) (port : ℕ) (text : List ℕ) (unit used : ℕ) → IsNumberAt 0 255 text unit used → drop used text ≡ [] → IsRead (IsBehindQuery host port) text (Modbus host port unit)
unit_read host port text unit used at e =
    both_read (IsNumber 0 255) (λ n. IsEnd (Modbus host port n)) (GoesOn unit 255) text used unit (Modbus host port unit) at.is at.longest (only_unit host port (take used text) unit at.is)
    (subst (λ (t : List ℕ). IsRead (IsEnd (Modbus host port unit)) t (Modbus host port unit)) (sym e) (end_read (Modbus host port unit)))

pub unit_past : (host : List ℕ) (port : ℕ) (text : List ℕ) (unit used : ℕ) → IsNumberAt 0 255 text unit used → used < length text → IsStuck (IsBehindQuery host port) text used
unit_past host port text unit used at more =
    let here : used + 0 ≡ used = omega arith in
    subst (IsStuck (IsBehindQuery host port) text) here
    (both_stuck (IsNumber 0 255) (λ n. IsEnd (Modbus host port n)) (GoesOn unit 255) text used 0 unit at.within at.is at.longest (only_unit host port (take used text) unit at.is)
    (past_end (Modbus host port unit) (drop used text) (omega (arith, length-drop used text))))

pub unit_missing : (host : List ℕ) (port : ℕ) (text : List ℕ) → IsStuckPart (IsNumber 0 255) text 0 → IsStuck (IsBehindQuery host port) text 0
unit_missing host port text stuck = stop (IsNumber 0 255) (λ n. IsEnd (Modbus host port n)) text 0 (unit_full host port) stuck

-- ---- the query

abbrev IsQuery : List ℕ → UrlWord → Type 0
IsQuery x word = IsWord url_word (UnitName ∷ []) x word

abbrev IsNamed : List ℕ → ℕ → List ℕ → Url → Type 0
IsNamed host port text url = Then IsQuery (λ _. IsBehindQuery host port) text url

query_full : (host : List ℕ) (port : ℕ) → IsFull IsQuery (λ _. IsBehindQuery host port)
query_full host port x word h = (decimal 0, Modbus host port 0, record { front = decimal 0; behind = []; said = 0; are = sym (append-nil (decimal 0)); first = (refl, omega arith, omega arith); second = (refl, refl) })

only_query : (host : List ℕ) (port : ℕ) (front : List ℕ) (word : UrlWord) → IsQuery front word → IsOnlyFront IsQuery (λ _. IsBehindQuery host port) Never front word
only_query host port front word h = only_word url_word (UnitName ∷ []) (λ _. IsBehindQuery host port) front word refl h

named : (host : List ℕ) (port b : ℕ) (r : List ℕ) (url : Url) → IsBehindPort host port (b ∷ r) url → IsNamed host port (b ∷ r) url
named host port b r url (inl h) = h
named host port b r url (inr h) = (let e : b ∷ r ≡ [] = h.0 in cc)

query_read : (host : List ℕ) (port b : ℕ) (text : List ℕ) (url : Url) → IsRead (IsNamed host port) (b ∷ text) url → IsRead (IsBehindPort host port) (b ∷ text) url
query_read host port b text url = narrow_read (IsNamed host port) (IsBehindPort host port) b text url (λ t v h. inl h) (named host port b)

query_stuck : (host : List ℕ) (port b : ℕ) (text : List ℕ) (place : ℕ) → IsStuck (IsNamed host port) (b ∷ text) place → IsStuck (IsBehindPort host port) (b ∷ text) place
query_stuck host port b text place = narrow_stuck (IsNamed host port) (IsBehindPort host port) b text place (λ t v h. inl h) (named host port b)

pub named_read : (host : List ℕ) (port : ℕ) (text : List ℕ) (word : UrlWord) (used : ℕ) (url : Url) → 0 < length text → IsWordAt url_word (UnitName ∷ []) text word used → IsRead (IsBehindQuery host port) (drop used text) url → IsRead (IsBehindPort host port) text url
named_read host port [] word used url some at read = absurd (omega arith)
named_read host port (b ∷ text) word used url some at read =
    query_read host port b text url (both_read IsQuery (λ _. IsBehindQuery host port) Never (b ∷ text) used word url at.is (never_led (drop used (b ∷ text))) (only_query host port (take used (b ∷ text)) word at.is) read)

pub named_stuck : (host : List ℕ) (port : ℕ) (text : List ℕ) (word : UrlWord) (used place : ℕ) → 0 < length text → IsWordAt url_word (UnitName ∷ []) text word used → IsStuck (IsBehindQuery host port) (drop used text) place → IsStuck (IsBehindPort host port) text (used + place)
named_stuck host port [] word used place some at stuck = absurd (omega arith)
named_stuck host port (b ∷ text) word used place some at stuck =
    query_stuck host port b text (used + place) (both_stuck IsQuery (λ _. IsBehindQuery host port) Never (b ∷ text) used place word at.within at.is (never_led (drop used (b ∷ text))) (only_query host port (take used (b ∷ text)) word at.is) stuck)

pub no_name : (host : List ℕ) (port : ℕ) (text : List ℕ) (place : ℕ) → 0 < length text → IsStuckPart (IsWord url_word (UnitName ∷ [])) text place → IsStuck (IsBehindPort host port) text place
no_name host port [] place some stuck = absurd (omega arith)
no_name host port (b ∷ text) place some stuck =
    query_stuck host port b text place (stop IsQuery (λ _. IsBehindQuery host port) (b ∷ text) place (query_full host port) stuck)

-- ---- the port

-- what stands behind a port begins with a question mark
query_lead : (host : List ℕ) (port : ℕ) (y : List ℕ) (url : Url) (b : ℕ) (r : List ℕ) → IsBehindPort host port y url → y ≡ b ∷ r → b ≡ 63
query_lead host port y url b r (inl h) e =
    let word = lone_word UnitName h.said h.first.0 in
    let begins : b ∷ r ≡ url_word UnitName ++ h.behind = sym e ∙ h.are ∙ ap (λ (x : List ℕ). x ++ h.behind) (h.first.1 ∙ ap url_word word) in
    cc
query_lead host port y url b r (inr h) e = (let both : b ∷ r ≡ [] = sym e ∙ h.0 in cc)

port_ends : (host : List ℕ) (port : ℕ) (y : List ℕ) (url : Url) → IsBehindPort host port y url → IsNotLed IsDigit y
port_ends host port y url h b r e digit = let mark = query_lead host port y url b r h e in omega (arith, digit, mark)

only_port : (host : List ℕ) (front : List ℕ) (port : ℕ) → IsNumber 1 65535 front port → IsOnlyFront (IsNumber 1 65535) (IsBehindPort host) (GoesOn port 65535) front port
only_port host front port h = only_number (IsBehindPort host) 1 65535 front port (omega arith) h (port_ends host)

port_full : (host : List ℕ) → IsFull (IsNumber 1 65535) (IsBehindPort host)
port_full host x n h = ([], Modbus host n 1, inr (refl, refl))

pub port_read : (host : List ℕ) (text : List ℕ) (port used : ℕ) (url : Url) → IsNumberAt 1 65535 text port used → IsRead (IsBehindPort host port) (drop used text) url → IsRead (IsBehindPortColon host) text url
port_read host text port used url at read =
    both_read (IsNumber 1 65535) (IsBehindPort host) (GoesOn port 65535) text used port url at.is at.longest (only_port host (take used text) port at.is) read

pub port_stuck : (host : List ℕ) (text : List ℕ) (port used place : ℕ) → IsNumberAt 1 65535 text port used → IsStuck (IsBehindPort host port) (drop used text) place → IsStuck (IsBehindPortColon host) text (used + place)
port_stuck host text port used place at stuck =
    both_stuck (IsNumber 1 65535) (IsBehindPort host) (GoesOn port 65535) text used place port at.within at.is at.longest (only_port host (take used text) port at.is) stuck

pub port_missing : (host : List ℕ) (text : List ℕ) → IsStuckPart (IsNumber 1 65535) text 0 → IsStuck (IsBehindPortColon host) text 0
port_missing host text stuck = stop (IsNumber 1 65535) (IsBehindPort host) text 0 (port_full host) stuck

-- ---- behind the host

abbrev IsPorted : List ℕ → List ℕ → Url → Type 0
IsPorted host text url = Then IsColon (λ _. IsBehindPortColon host) text url

only_colon : (host : List ℕ) → IsOnlyFront IsColon (λ _. IsBehindPortColon host) Never (58 ∷ []) 58
only_colon host x y z other b l k not e = (l.0, l.1)

colon_first : (host text : List ℕ) (url : Url) (b : ℕ) (r : List ℕ) → IsPorted host text url → text ≡ b ∷ r → b ≡ 58
colon_first host text url b r h e =
    let begins : b ∷ r ≡ 58 ∷ h.behind = sym e ∙ h.are ∙ ap (λ (x : List ℕ). x ++ h.behind) h.first.0 in cc

ported : (host r : List ℕ) (url : Url) → IsBehindHost host (58 ∷ r) url → IsPorted host (58 ∷ r) url
ported host r url (inl h) = h
ported host r url (inr h) = absurd (let mark = query_lead host 502 (58 ∷ r) url 58 r h refl in omega (arith, mark))

unported : (host : List ℕ) (b : ℕ) (r : List ℕ) (url : Url) → (b ≡ 58 → ⊥) → IsBehindHost host (b ∷ r) url → IsBehindPort host 502 (b ∷ r) url
unported host b r url other (inl h) = absurd (other (colon_first host (b ∷ r) url b r h refl))
unported host b r url other (inr h) = h

pub ported_read : (host text : List ℕ) (url : Url) → IsRead (IsBehindPortColon host) text url → IsRead (IsBehindHost host) (58 ∷ text) url
ported_read host text url read =
    narrow_read (IsPorted host) (IsBehindHost host) 58 text url (λ t v h. inl h) (ported host)
    (both_read IsColon (λ _. IsBehindPortColon host) Never (58 ∷ text) 1 58 url (refl, refl) (never_led text) (only_colon host) read)

pub ported_stuck : (host text : List ℕ) (place : ℕ) → IsStuck (IsBehindPortColon host) text place → IsStuck (IsBehindHost host) (58 ∷ text) (1 + place)
ported_stuck host text place stuck =
    narrow_stuck (IsPorted host) (IsBehindHost host) 58 text (1 + place) (λ t v h. inl h) (ported host)
    (both_stuck IsColon (λ _. IsBehindPortColon host) Never (58 ∷ text) 1 place 58 (omega arith) (refl, refl) (never_led text) (only_colon host) stuck)

pub unported_read : (host text : List ℕ) (url : Url) → IsNotLed (λ b. b ≡ 58) text → IsRead (IsBehindPort host 502) text url → IsRead (IsBehindHost host) text url
unported_read host [] url not read = record { is = inr read.is; only = λ other h. elim h [ inl p ↦ (let e : [] ≡ 58 ∷ p.behind = p.are ∙ ap (λ (x : List ℕ). x ++ p.behind) p.first.0 in cc) | inr q ↦ read.only other q ] }
unported_read host (b ∷ text) url not read =
    narrow_read (IsBehindPort host 502) (IsBehindHost host) b text url (λ t v h. inr h) (λ r v. unported host b r v (not b text refl)) read

pub unported_stuck : (host text : List ℕ) (place : ℕ) → IsNotLed (λ b. b ≡ 58) text → IsStuck (IsBehindPort host 502) text place → IsStuck (IsBehindHost host) text place
unported_stuck host [] place not stuck = absurd (let whole : place ≡ 0 = omega (arith, stuck.within) in stuck.short whole (Modbus host 502 1) (inr (refl, refl)))
unported_stuck host (b ∷ text) place not stuck =
    narrow_stuck (IsBehindPort host 502) (IsBehindHost host) b text place (λ t v h. inr h) (λ r v. unported host b r v (not b text refl)) stuck

-- ---- behind the scheme

mark_or_colon : (host y : List ℕ) (url : Url) (b : ℕ) (r : List ℕ) → IsBehindHost host y url → y ≡ b ∷ r → (b ≡ 58) ⊎ (b ≡ 63)
mark_or_colon host y url b r (inl h) e = inl (colon_first host y url b r h e)
mark_or_colon host y url b r (inr h) e = inr (query_lead host 502 y url b r h e)

no_host_byte : (b : ℕ) → (b ≡ 58) ⊎ (b ≡ 63) → IsHostByte b → ⊥
no_host_byte b (inl e) h = not_58 b e h
  where
    not_58 : (b : ℕ) → b ≡ 58 → IsHostByte b → ⊥
    not_58 b e (inl h) = omega arith
    not_58 b e (inr (inl h)) = omega arith
    not_58 b e (inr (inr (inl h))) = omega (arith, h.1)
    not_58 b e (inr (inr (inr (inl h)))) = omega (arith, h.0)
    not_58 b e (inr (inr (inr (inr h)))) = omega (arith, h.0)
no_host_byte b (inr e) h = not_63 b e h
  where
    not_63 : (b : ℕ) → b ≡ 63 → IsHostByte b → ⊥
    not_63 b e (inl h) = omega arith
    not_63 b e (inr (inl h)) = omega arith
    not_63 b e (inr (inr (inl h))) = omega (arith, h.1)
    not_63 b e (inr (inr (inr (inl h)))) = omega (arith, h.0)
    not_63 b e (inr (inr (inr (inr h)))) = omega (arith, h.0)

host_ends : (host y : List ℕ) (url : Url) → IsBehindHost host y url → IsNotLed IsHostByte y
host_ends host y url h b r e byte = no_host_byte b (mark_or_colon host y url b r h e) byte

only_host_text : (front : List ℕ) → IsHost front → IsOnlyFront IsHostText IsBehindHost IsHostByte front front
only_host_text front is x y z other b l k not e =
    let same : x ≡ front = only_host front x y z is.1 (subst (AllByRecursion IsHostByte) (sym l.0) l.1.1) (host_ends other y b k) not e in
    (same, sym l.0 ∙ same)

host_full : IsFull IsHostText IsBehindHost
host_full x host h = ([], Modbus host 502 1, inr (inr (refl, refl)))

pub host_missing : (text : List ℕ) → IsNotLed IsHostByte text → IsStuck IsBehindScheme text 0
host_missing text not = stop IsHostText IsBehindHost text 0 host_full (no_host text not)

pub host_read : (text : List ℕ) (used : ℕ) (url : Url) → IsHostAt text used → 0 < used → IsRead (IsBehindHost (take used text)) (drop used text) url → IsRead IsBehindScheme text url
host_read text used url at some read =
    let is = host_found text used at some in
    both_read IsHostText IsBehindHost IsHostByte text used (take used text) url (refl, is) at.longest (only_host_text (take used text) is) read

pub host_stuck : (text : List ℕ) (used place : ℕ) → IsHostAt text used → 0 < used → IsStuck (IsBehindHost (take used text)) (drop used text) place → IsStuck IsBehindScheme text (used + place)
host_stuck text used place at some stuck =
    let is = host_found text used at some in
    both_stuck IsHostText IsBehindHost IsHostByte text used place (take used text) at.within (refl, is) at.longest (only_host_text (take used text) is) stuck

-- ---- the whole

abbrev IsScheme : List ℕ → UrlWord → Type 0
IsScheme x word = IsWord url_word (Scheme ∷ []) x word

scheme_full : IsFull IsScheme (λ _. IsBehindScheme)
scheme_full x word h =
    let host : IsHost (104 ∷ []) = (λ e. cc, (inr (inr (inr (inr (omega arith, omega arith)))), tt)) in
    (104 ∷ [], Modbus (104 ∷ []) 502 1, record { front = 104 ∷ []; behind = []; said = 104 ∷ []; are = refl; first = (refl, host); second = inr (inr (refl, refl)) })

only_scheme : (front : List ℕ) (word : UrlWord) → IsScheme front word → IsOnlyFront IsScheme (λ _. IsBehindScheme) Never front word
only_scheme front word h = only_word url_word (Scheme ∷ []) (λ _. IsBehindScheme) front word refl h

pub scheme_missing : (text : List ℕ) (place : ℕ) → IsStuckPart (IsWord url_word (Scheme ∷ [])) text place → IsStuck IsWholeUrl text place
scheme_missing text place stuck = stop IsScheme (λ _. IsBehindScheme) text place scheme_full stuck

pub scheme_read : (text : List ℕ) (word : UrlWord) (used : ℕ) (url : Url) → IsWordAt url_word (Scheme ∷ []) text word used → IsRead IsBehindScheme (drop used text) url → IsRead IsWholeUrl text url
scheme_read text word used url at read =
    both_read IsScheme (λ _. IsBehindScheme) Never text used word url at.is (never_led (drop used text)) (only_scheme (take used text) word at.is) read

pub scheme_stuck : (text : List ℕ) (word : UrlWord) (used place : ℕ) → IsWordAt url_word (Scheme ∷ []) text word used → IsStuck IsBehindScheme (drop used text) place → IsStuck IsWholeUrl text (used + place)
scheme_stuck text word used place at stuck =
    both_stuck IsScheme (λ _. IsBehindScheme) Never text used place word at.within at.is (never_led (drop used text)) (only_scheme (take used text) word at.is) stuck
