-- What is answered at the end, what is refused, and pieces.
use Rattle.std.proofs.Common.{◌≡◌, ◌≤◌, ◌-◌, ◌<◌, ℕ, zero, suc, Bool, true, false, cond, eqb, List, [], ◌++◌, length, take, drop, Option, Some, None, Err, refl, sym, ap, ◌∙◌, append_assoc, arith, length-append}
use Rattle.std.specs.Prelude.{◌==◌}
use Rattle.std.proofs.lemmas.Bool.{ltb-false, eqb-true}
use Rattle.std.proofs.lemmas.List.{drop_at}
use Rattle.lat_base.specs.Shape.{target_count}
use Rattle.cert_fields.specs.declared.fault.CertFault.TheVariants.{NotACertificate}
use Rattle.cert_types.specs.declared.checked.Checked.TheVariants.{Yes}
use Rattle.cert_types.specs.declared.part.Part.{Part}
use Rattle.cert_types.specs.declared.proved.Proved.{Proved}
use Rattle.cert_types.specs.declared.verdict.Verdict.{Verdict}
use Rattle.cert_types.specs.LowerPart.{LowerPart}
use Rattle.cert_check.specs.Answers.{ArePartsAnswer}
use Rattle.cert_check.specs.Checked.{IsChecked}
use Rattle.cert_fields.specs.Head.{Head}
use Rattle.cert_format.proofs.Certs.{CertParts, to_cert, cert_found, cert_refused}
use Rattle.cert_types.specs.Claim.{CertClaim}
use Rattle.cert_format.specs.Files.{IsCert}
use Rattle.cert_stream.specs.declared.front.Front.{Front}
use Rattle.cert_stream.specs.declared.head.Head as heads
use Rattle.cert_stream.specs.declared.phase.Phase.{Phase}
use Rattle.cert_stream.specs.declared.phase.Phase.TheVariants.{Start, Rows, Robust, Contests, Lower, Done}
use Rattle.cert_stream.specs.Answer.{checked_of, IsAnswer, IsNone}
use Rattle.cert_stream.specs.Left.{Parts, whole_at, end_left, lower_left, lower_tree_left, robust_left, rows_left}
use Rattle.cert_stream.specs.Phases.{head_of, most_of, waits}
use Rattle.cert_stream.specs.Stands.{StandsAt, Refuses, IsTail}
use Rattle.cert_stream.proofs.Claims.{claim_is_true}
use Rattle.cert_stream.proofs.Settled.{reads_piece, reads_held}

-- ---- what is no certificate

pub none_is : (bytes : List ℕ) → whole_at bytes ≡ None → IsNone bytes
none_is bytes e cert is spelled = cert_refused (λ (x : CertParts). x) (Err NotACertificate) bytes e refl cert is spelled

-- ---- pieces

pub stands_piece : (phase : Phase) (held all piece : List ℕ) → StandsAt phase held all
    → StandsAt phase (held ++ piece) (all ++ piece)
stands_piece Start held all piece s = reads_piece all held piece whole_at s
stands_piece (Rows front deck j) held all piece s = (s.0, reads_piece all held piece (rows_left (head_of front) front.verdict (take j deck.ballots) (length deck.ballots - j)) s.1)
stands_piece (Robust front wanted check) held all piece s = (s.0, s.1, s.2, s.3, s.4, s.5, reads_piece all held piece (robust_left (head_of front) front.verdict s.0 s.1 wanted) s.6)
stands_piece (Contests front size fault) held all piece s = (s.0, s.1, s.2, reads_piece all held piece (lower_left (head_of front) front.verdict s.0 size) s.3)
stands_piece (Lower front wanted check) held all piece s = (s.0, s.1, s.2, s.3, s.4, s.5, s.6, s.7, s.8, reads_piece all held piece (lower_tree_left (head_of front) front.verdict s.0 s.1 s.2 s.3 wanted) s.9)
stands_piece (Done front fault) held all piece s = (s.0, s.1, s.2, s.3, reads_piece all held piece (end_left (head_of front) front.verdict s.0 s.1) s.4)

-- ---- the end

-- behind a whole certificate nothing may stand
empty_only : {A : Type 0} (x : Option A) (n : ℕ) → 0 < n → (b : Bool) → eqb n 0 ≡ b
    → cond b x None ≡ None
empty_only x n h true e = absurd (let z : n ≡ 0 = eqb-true n 0 e in omega arith)
empty_only x n h false e = refl

more_left : (head : Head) (verdict : Verdict) (proved : Option Proved) (lower : Option LowerPart)
    (bytes : List ℕ) → 0 < length bytes → end_left head verdict proved lower bytes ≡ None
more_left head verdict proved lower bytes h =
    let parts : Parts = (head, ((verdict, proved), lower)) in
    empty_only (Some parts) (length bytes) h (eqb (length bytes) 0) refl

pub late : (front : Front) (fault : Option (Part × ℕ)) (held : List ℕ) → 0 < length held
    → Refuses (Done front fault) held
late front fault held some all s = (
  reads_held all held (end_left (head_of front) front.verdict s.0 s.1) s.4 ∙ more_left (head_of front) front.verdict s.0 s.1 held some,
  λ _ more. s.4 more ∙ more_left (head_of front) front.verdict s.0 s.1 (held ++ more) (omega (arith, length-append held more, some)),
)

-- where something is read, the most bytes that it takes are there
pub not_waiting : (phase : Phase) (there : ℕ) → waits phase there false ≡ false
    → most_of phase ≤ there
not_waiting Start there e = ltb-false _ _ e
not_waiting (Rows front deck j) there e = ltb-false _ _ e
not_waiting (Robust front wanted check) there e = ltb-false _ _ e
not_waiting (Contests front size fault) there e = ltb-false _ _ e
not_waiting (Lower front wanted check) there e = ltb-false _ _ e
not_waiting (Done front fault) there e = omega arith

pub not_ended : (phase : Phase) (there : ℕ) (ending : Bool) → waits phase there ending ≡ false
    → waits phase there true ≡ false
not_ended Start there ending e = refl
not_ended (Rows front deck j) there ending e = refl
not_ended (Robust front wanted check) there ending e = refl
not_ended (Contests front size fault) there ending e = refl
not_ended (Lower front wanted check) there ending e = refl
not_ended (Done front fault) there ending e = e

-- bytes are left where a test says so
pub some_left : (there : ℕ) → (there == 0) ≡ false → 0 < there
some_left zero e = absurd (cc)
some_left (suc n) e = omega arith

-- where no more bytes come, only the end waits
pub ends_done : (phase : Phase) (there : ℕ) → waits phase there true ≡ true
    → (front : Front) × (fault : Option (Part × ℕ)) × (phase ≡ Done front fault) × (there ≡ 0)
ends_done Start there e = absurd (cc)
ends_done (Rows front deck j) there e = absurd (cc)
ends_done (Robust front wanted check) there e = absurd (cc)
ends_done (Contests front size fault) there e = absurd (cc)
ends_done (Lower front wanted check) there e = absurd (cc)
ends_done (Done front fault) there e = (front, fault, refl, eqb-true there 0 e)

-- the bytes that are left of those that are left
pub tail_on : (bytes mid rest : List ℕ) → IsTail bytes mid → IsTail mid rest → IsTail bytes rest
tail_on bytes mid rest a b = (a.0 ++ b.0, a.1 ∙ ap (λ (r : List ℕ). a.0 ++ r) b.1 ∙ sym (append_assoc a.0 b.0 rest))

-- what is left is come to by dropping what was read
pub rest_is : (bytes rest : List ℕ) (n : ℕ) → IsTail bytes rest → n ≡ length bytes - length rest
    → drop n bytes ≡ rest
rest_is bytes rest n t e =
    let m : n ≡ length t.0 = omega (arith, e, ap length t.1, length-append t.0 rest) in
    ap (drop n) t.1 ∙ drop_at t.0 rest n (sym m)

-- ---- the answer

abbrev pub head_at_end : Front → ℕ → heads.Head
head_at_end front targets = record { names = front.names; targets = targets; verdict = front.verdict; best = front.best }

claimed : (front : Front) (proved : Option Proved) (lower : Option LowerPart)
    (fault : Option (Part × ℕ)) (verdict : Verdict)
    → ArePartsAnswer front.shape front.rules proved lower fault
    → IsCert (to_cert (head_of front, ((front.verdict, proved), lower)))
    → checked_of front.verdict fault ≡ Yes verdict
    → CertClaim (to_cert (head_of front, ((front.verdict, proved), lower)))
claimed front proved lower None verdict h is e = claim_is_true (to_cert (head_of front, ((front.verdict, proved), lower))) is h
claimed front proved lower (Some fault) verdict h is e = absurd (cc)

is_checked : (front : Front) (proved : Option Proved) (lower : Option LowerPart)
    (fault : Option (Part × ℕ)) → ArePartsAnswer front.shape front.rules proved lower fault
    → IsChecked (to_cert (head_of front, ((front.verdict, proved), lower)))
    (checked_of front.verdict fault)
is_checked front proved lower None h = (h, refl)
is_checked front proved lower (Some fault) h = h

pub answers : (front : Front) (fault : Option (Part × ℕ)) (targets : ℕ) (all : List ℕ)
    → targets ≡ target_count front.shape → StandsAt (Done front fault) [] all
    → IsAnswer all (head_at_end front targets) (checked_of front.verdict fault)
answers front fault targets all count s =
    let parts : CertParts = (head_of front, ((front.verdict, s.0), s.1)) in
    let found = cert_found all parts (reads_held all [] (end_left (head_of front) front.verdict s.0 s.1) s.4) in
    record {
      cert = to_cert parts;
      is_cert = found.0;
      spelled = found.1;
      is_head = record { names = refl; targets = count; verdict = refl; best = s.2 };
      is_checked = is_checked front s.0 s.1 fault s.3;
      claim = λ verdict. claimed front s.0 s.1 fault verdict s.3 found.0;
    }
