-- Reading line by line, up to the first fault.
use Rattle.std.specs.Prelude.{◌≡◌, ◌≢◌, ◌⊎◌, ℕ, zero, suc, ◌+◌, ◌==◌, List, [], ◌∷◌, take, drop, Option, Some, None, Result, Ok, Err}
use Rattle.std.specs.List.{position}
use Rattle.text_lines.specs.Words.{fields_of}
use Rattle.text_lines.specs.declared.fault.LineFault.{LineFault}
use Rattle.text_lines.specs.declared.fault.LineFault.TheVariants as line
use Rattle.cert_text.specs.declared.cert.Cert.{Cert}
use Rattle.cert_text.specs.declared.fault.CertFault.{CertFault}
use Rattle.cert_text.specs.declared.fault.CertKind.TheVariants as kind
use Rattle.cert_text.specs.declared.reader.Reader.{Reader}
use Rattle.cert_text.specs.Faults.{OrMemory, fault, no_memory}

infixl 10 ◌>>=◌
abbrev pub ◌>>=◌ : {A B : Type 0} → Result A CertFault → (A → Result B CertFault) → Result B CertFault
(Ok x) >>= f = f x
(Err e) >>= f = Err e

-- the answer is what reading gives, unless memory ran out
abbrev pub ReadsCert : Result Cert CertFault → Result Cert CertFault → Type 0
ReadsCert (Ok cert) read = read ≡ Ok cert
ReadsCert (Err f) read = OrMemory f.kind (read ≡ Err f)

-- the fault is want of memory, or that of the text
abbrev pub IsTold : {Y : Type 0} → CertFault → Result Y CertFault → Type 0
IsTold f read = (f ≡ no_memory) ⊎ ((f.kind ≢ kind.Memory) × (read ≡ Err f))

-- what a part was read as, seen by `view`, is what reading gives, unless memory ran out
abbrev pub ReadsPart : {X Y : Type 0} → (X → Y) → Result X CertFault → Result Y CertFault → Type 0
ReadsPart view (Ok x) read = read ≡ Ok (view x)
ReadsPart view (Err f) read = IsTold f read

-- the number of the next line, and what is left of the text
abbrev pub TextLeft : Type 0
TextLeft = ℕ × List ℕ

abbrev pub text_left : Reader → TextLeft
text_left reader = (reader.number, reader.rest.now)

-- the same of a part after which so much is left
abbrev pub ReadsOn : {X : Type 0} → Result X CertFault → TextLeft → Result (X × TextLeft) CertFault → Type 0
ReadsOn result left read = ReadsPart (λ x. (x, left)) result read

-- a line is ended by a line feed
abbrev pub cut_at : TextLeft → Option ℕ → Result (List ℕ × TextLeft) CertFault
cut_at p None = Err (fault kind.BadLine p.0)
cut_at p (Some i) = Ok (take i p.1, (p.0 + 1, drop (i + 1) p.1))

abbrev pub line_at : TextLeft → Result (List ℕ × TextLeft) CertFault
line_at p = cut_at p (position (λ b. b == 10) p.1)

abbrev pub at_line : {A : Type 0} → ℕ → Result A LineFault → Result A CertFault
at_line n (Ok x) = Ok x
at_line n (Err line.BadLine) = Err (fault kind.BadLine n)
at_line n (Err line.BadNumber) = Err (fault kind.BadNumber n)
at_line n (Err line.Memory) = Err no_memory

-- one line of a form, which says what a line gives
abbrev pub form_at : {A : Type 0} → (List ℕ → Result A LineFault) → TextLeft → Result (A × TextLeft) CertFault
form_at form p = do
  text ← line_at p
  found ← at_line p.0 (form text.0)
  Ok (found, text.1)

-- one line whose fields have a form
abbrev pub fields_at : {A : Type 0} → (List (List ℕ) → Result A LineFault) → TextLeft → Result (A × TextLeft) CertFault
fields_at form p = form_at (λ line. form (fields_of line)) p

-- so many parts, one after another
unfoldable pub many_at : {X : Type 0} → (TextLeft → Result (X × TextLeft) CertFault) → ℕ → TextLeft
    → Result (List X × TextLeft) CertFault
many_at read zero p = Ok ([], p)
many_at read (suc m) p = do
  one ← read p
  others ← many_at read m one.1
  Ok (one.0 ∷ others.0, others.1)
