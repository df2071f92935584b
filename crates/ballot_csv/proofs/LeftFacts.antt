-- What one read takes from the records that are left.
use Rattle.std.proofs.Common.{ℕ, List, [], ◌∷◌, ◌+◌, ◌<◌, ◌≤◌, ◌≡◌, refl, ap, ◌∙◌, true, false, Bool, cond, inl, inr, Option, Some, None, length, suc, zero, arith, add-one}
use Rattle.std.specs.Prelude.{◌==◌, ◌&&◌, IsSome, IsErrAnd, MatchBool, MatchResult, Ok, Err, Result, not, if◌then◌else◌}
use Rattle.std.specs.Borrow.{Bor}
use Rattle.std.proofs.lemmas.Bool.{cases_Bool}
use Rattle.csv.specs.Machine.{Read, after_end, ends_at_end, ends_with, in_field, is_byte, is_end, next_record, start_field, start_record, step}
use Rattle.csv.specs.Reading.{Reached, ReadRecord, default_config, is_flexible, records_from, records_next, took_first}
use Rattle.csv.specs.declared.parser.Action.{Action}
use Rattle.csv.specs.declared.parser.Config.{Config}
use Rattle.csv.specs.declared.parser.State.{State}
use Rattle.csv.specs.declared.parser.State.TheVariants as st
use Rattle.csv.specs.declared.parser.Terminator.{Terminator}
use Rattle.csv.specs.declared.parser.Terminator.TheVariants as term
use Rattle.csv.specs.declared.reader.Reader.{Reader}
use Rattle.csv.proofs.ReadFacts.{rows-end, rows-more}
use Rattle.ballot_csv.specs.Left.{IsBetween, records_at, records_left}

-- a step that ends a record leaves the machine between two records
abbrev Rests : State × Action → Type 0
Rests x = is_end x.1 ≡ true → ends_at_end x.0 ≡ false

pick : (b : Bool) (x y : State × Action) → Rests x → Rests y → Rests (cond b x y)
pick true x y hx hy = hx
pick false x y hx hy = hy

after_end_rests : (t : Terminator) (c : ℕ) → ends_at_end (after_end t c) ≡ false
after_end_rests (term.Any t) c = refl
after_end_rests term.CRLF c = elim (cases_Bool (c == 13)) [ inl y ↦ rw y refl | inr n ↦ rw n refl ]

in_field_rests : (cfg : Config) (c : ℕ) → Rests (in_field cfg c)
in_field_rests cfg c = pick (c == cfg.delimiter) _ _ (λ e. cc e) (pick (ends_with cfg.terminator c) _ _ (λ e. after_end_rests cfg.terminator c) (λ e. cc e))

start_field_rests : (cfg : Config) (c : ℕ) → Rests (start_field cfg c)
start_field_rests cfg c = pick (cfg.quoting && (c == cfg.quote)) _ _ (λ e. cc e) (in_field_rests cfg c)

start_record_rests : (cfg : Config) (c : ℕ) → Rests (start_record cfg c)
start_record_rests cfg c = pick (ends_with cfg.terminator c) _ _ (λ e. cc e) (pick (is_byte cfg.comment c) _ _ (λ e. cc e) (start_field_rests cfg c))

step_rests : (s : State) (c : ℕ) → Rests (step default_config s c)
step_rests st.StartRecord c = start_record_rests default_config c
step_rests st.StartField c = start_field_rests default_config c
step_rests st.InField c = in_field_rests default_config c
step_rests st.InQuoted c = pick (c == 34) _ _ (λ e. cc e) (λ e. cc e)
step_rests st.InEscape c = λ e. cc e
step_rests st.AfterQuote c = pick (c == 34) _ _ (λ e. cc e) (in_field_rests default_config c)
step_rests st.InComment c = pick (c == 10) _ _ (λ e. cc e) (λ e. cc e)
step_rests st.AfterCr c = pick (c == 10) _ _ (λ e. cc e) (start_record_rests default_config c)

some_same : {X : Type 0} (x y : X) → Some x ≡ Some y → x ≡ y
some_same x y e = cc e

next_within : (p : Read) (xs : List ℕ) (s : State) (fields : List (List ℕ)) (field : List ℕ) → next_record default_config s fields field xs ≡ Some p
    → (length p.2 ≤ length xs) × (ends_at_end p.1 ≡ false)
unfolding next_record
next_within p [] s fields field e = elim (cases_Bool (ends_at_end s)) [
  | inl t ↦ let q = some_same _ _ (rw t at e) in rw (← q) (omega arith, refl)
  | inr f ↦ cc (rw f at e)
]
next_within p (c ∷ rest) s fields field e = elim (cases_Bool (is_end (step default_config s c).1)) [
  | inl t ↦ let q = some_same _ _ (rw t at e) in rw (← q) (omega arith, step_rests s c t)
  | inr f ↦ let more = next_within p rest (step default_config s c).0 _ _ (rw f at e) in (omega (arith, more.0), more.1)
]

next_shorter : (s : State) (xs : List ℕ) (p : Read) → ends_at_end s ≡ false → next_record default_config s [] [] xs ≡ Some p
    → length p.2 < length xs
unfolding next_record
next_shorter s [] p h e = cc (rw h at e)
next_shorter s (c ∷ rest) p h e = elim (cases_Bool (is_end (step default_config s c).1)) [
  | inl t ↦ let q = some_same _ _ (rw t at e) in rw (← q) (omega arith)
  | inr f ↦ let more = next_within p rest (step default_config s c).0 _ _ (rw f at e) in omega (arith, more.0)
]

-- turns enough give every record
more_turns : (n m : ℕ) (s : State) (xs : List ℕ) → ends_at_end s ≡ false → length xs < n → length xs < m
    → records_from default_config n s xs ≡ records_from default_config m s xs
unfolding records_from
more_turns zero m s xs h a b = absurd (omega (arith, a))
more_turns (suc n) zero s xs h a b = absurd (omega (arith, b))
more_turns (suc n) (suc m) s xs h a b = by (next_record default_config s [] [] xs) refl (λ t ys. more_turns n m t ys)
  where
    by : (o : Option Read) → next_record default_config s [] [] xs ≡ o
        → ((t : State) (ys : List ℕ) → ends_at_end t ≡ false → length ys < n → length ys < m → records_from default_config n t ys ≡ records_from default_config m t ys)
        → records_next (records_from default_config n) o ≡ records_next (records_from default_config m) o
    by None e more = refl
    by (Some p) e more =
        let less = next_shorter s xs p h e in
        ap (λ (t : List (List (List ℕ))). p.0 ∷ t) (more p.1 p.2 (next_within p xs s [] [] e).1 (omega (arith, less, a)) (omega (arith, less, b)))

pub one_more : (s : State) (xs : List ℕ) (p : Read) → ends_at_end s ≡ false → next_record default_config s [] [] xs ≡ Some p
    → records_at s xs ≡ p.0 ∷ records_at p.1 p.2
unfolding records_from
one_more s xs p h e =
    let less = next_shorter s xs p h e in
    rw (add-one (length xs), e) (ap (λ (t : List (List (List ℕ))). p.0 ∷ t)
    (more_turns (length xs) (length p.2 + 1) p.1 p.2 (next_within p xs s [] [] e).1 less (omega arith)))

pub no_more : (s : State) (xs : List ℕ) → next_record default_config s [] [] xs ≡ None → records_at s xs ≡ []
unfolding records_from
no_more s xs e = rw (add-one (length xs), e) refl

of_some : {X : Type 0} (o : Option X) → IsSome o → (x : X) × (o ≡ Some x)
of_some (Some x) h = (x, refl)
of_some None h = cc h

abbrev pub rem : Bor (List ℕ) → Option (List ℕ)
rem b = Some b.now

joined : (s s2 : State) (y z : List ℕ) (f : List (List ℕ)) (p : Read) → records_at s y ≡ p.0 ∷ records_at p.1 p.2 → f ≡ p.0 → p.1 ≡ s2 → p.2 ≡ z
    → records_at s y ≡ f ∷ records_at s2 z
joined s s2 y z f p step fields state rest = rw (fields, ← state, ← rest) step

-- a read that gave a record
pub read_one : (a b : Reader (Bor (List ℕ))) (f : List (List ℕ)) → IsBetween a → ReadRecord rem a b true f → is_flexible b ≡ is_flexible a
    → took_first b ≡ true → (records_left a ≡ f ∷ records_left b) × IsBetween b
unfolding Reached
read_one a b f h r flexible first =
    let (y, source) = of_some _ h.known in
    let (z, after, reached) = rows-more rem a b f default_config a.state y y [] h.config source (refl, refl) r in
    let (p, next, fields, rest) = reached in
    let step = one_more a.state y p h.between next in
    let between = (next_within p y a.state [] [] next).1 in (
      rw (source, after) (joined a.state b.state y z f p step fields rest.0 rest.1),
      record {
        config = r.2 ∙ h.config;
        trim = r.3 ∙ h.trim;
        flexible = flexible ∙ h.flexible;
        ready = inl first;
        between = rw rest.0 at between;
        known = rw after refl;
      },
    )

-- a read that found the end
pub read_none : (a b : Reader (Bor (List ℕ))) (f : List (List ℕ)) → IsBetween a → ReadRecord rem a b false f → records_left a ≡ []
read_none a b f h r =
    let (y, source) = of_some _ h.known in
    rw source (no_more a.state y (rows-end rem a b f default_config y h.config source r))

-- what the clauses of a read say of one that gave an answer
pub read_gives : (a b : Reader (Bor (List ℕ))) (f : List (List ℕ)) (found : Bool) → IsBetween a → ReadRecord rem a b found f
    → is_flexible b ≡ is_flexible a → took_first b ≡ true
    → MatchBool found (records_left a ≡ f ∷ (if not found then [] else records_left b)) ((records_left a ≡ []) × ((if not found then [] else records_left b) ≡ []))
read_gives a b f true h r flexible first = (read_one a b f h r flexible first).0
read_gives a b f false h r flexible first = (read_none a b f h r, refl)

pub read_stays : (a b : Reader (Bor (List ℕ))) (f : List (List ℕ)) (found : Bool) → IsBetween a → ReadRecord rem a b found f
    → is_flexible b ≡ is_flexible a → took_first b ≡ true → not found ≡ false → IsBetween b
read_stays a b f true h r flexible first e = (read_one a b f h r flexible first).1
read_stays a b f false h r flexible first e = cc e

pub ok_before : {E F : Type 0} (r : Result Bool E) (s : Result Bool F) (x : Bool) (Q : E → F → Type 0) → MatchResult r (λ y. s ≡ Ok y) (λ e. IsErrAnd s (Q e))
    → s ≡ Ok x → r ≡ Ok x
ok_before (Ok y) s x Q h was = cc (h, was)
ok_before (Err e) s x Q h was = absurd (rw was at h)

-- no more records than turns
pub few_records : (n : ℕ) (s : State) (xs : List ℕ) → length (records_from default_config n s xs) ≤ n
unfolding records_from
few_records zero s xs = omega arith
few_records (suc n) s xs = by (next_record default_config s [] [] xs) (λ t ys. few_records n t ys)
  where
    by : (o : Option Read) → ((t : State) (ys : List ℕ) → length (records_from default_config n t ys) ≤ n) → length (records_next (records_from default_config n) o) ≤ suc n
    by None few = omega arith
    by (Some p) few = let rest = few p.1 p.2 in omega (arith, rest)
