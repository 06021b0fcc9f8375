-- The job of `match`: that a certificate is of a style of a definition.
use Rattle.std.specs.Prelude.{◌≡◌, ◌⊎◌, ◌<◌, ℕ, [], length, codes, Result, Ok, Err}
use Rattle.lat_base.specs.Names.{names_at}
use Rattle.lat_base.specs.Shape.{contest_at}
use Rattle.cert_types.specs.CertValue.{CertValue}
use Rattle.lat_top.specs.declared.asked_style.AskedStyle.{AskedStyle}
use Rattle.lat_top.specs.declared.refusal.Refusal.{Refusal}
use Rattle.lat_top.specs.declared.refusal.Refusal.TheVariants as r
use Rattle.lat_top.specs.declared.spot.Spot.{Spot}
use Rattle.lat_top.specs.declared.spot.Spot.TheVariants as spot
use Rattle.lat_top.specs.declared.status.Status.{Status}
use Rattle.lat_top.specs.declared.status.Status.TheVariants as s
use Rattle.lat_top.specs.AskedStyle.{style_in_file}
use Rattle.lat_top.specs.CertFile.{cert_in_file}
use Rattle.lat_top.specs.Job.{Job, job}
use Rattle.lat_top.specs.Script.{Script, ◌>>=◌, find}
use Rattle.lat_top.specs.Words.{Match}
use Rattle.lat_top.specs.Written.{Texts}

-- contest number c is in both, with the same ids, limit and number of targets
pub record IsSameContest (style : AskedStyle) (cert : CertValue) (c : ℕ) : Type 0 where
  pub in_style : c < length style.shape
  pub in_cert : c < length cert.contests
  pub names : names_at style.names.contests c ≡ names_at cert.names.contests c
  pub contest : contest_at style.shape c ≡ contest_at cert.contests c

-- there are as many contests, and each is the same
pub record AreSameContests (style : AskedStyle) (cert : CertValue) : Type 0 where
  pub count : length style.shape ≡ length cert.contests
  pub each : (c : ℕ) → c < length style.shape → IsSameContest style cert c

-- the first contest that isn't the same; where one list ends before the other, they differ there
pub record IsFirstOther (style : AskedStyle) (cert : CertValue) (c : ℕ) : Type 0 where
  pub within : (c < length style.shape) ⊎ (c < length cert.contests)
  pub before : (d : ℕ) → d < c → IsSameContest style cert d
  pub here : ¬ IsSameContest style cert c

-- the first difference of a style and a certificate: its id; else a contest; else the rules
abbrev pub IsSpot : AskedStyle → CertValue → Spot → Type 0
IsSpot style cert spot.Style = ¬ (style.names.style ≡ cert.names.style)
IsSpot style cert (spot.Contest c) =
    (style.names.style ≡ cert.names.style) × IsFirstOther style cert c
IsSpot style cert spot.Rules = (style.names.style ≡ cert.names.style)
    × AreSameContests style cert × ¬ (style.rules ≡ cert.rules)

-- a certificate of the style, or the first difference
abbrev pub IsOfStyle : AskedStyle → CertValue → Result CertValue Refusal → Type 0
IsOfStyle style cert (Ok same) = (same ≡ cert) × (style.names.style ≡ cert.names.style)
    × AreSameContests style cert × (style.rules ≡ cert.rules)
IsOfStyle style cert (Err (r.OtherStyle place)) = IsSpot style cert place
IsOfStyle style cert (Err refusal) = ⊥

-- the definition is read and the style found, and then the certificate is read and compared
abbrev pub match_reads : Match → Script CertValue
match_reads asked = do
  style ← style_in_file asked.definition asked.style
  cert ← cert_in_file asked.cert
  find (IsOfStyle style cert)

-- no file, and the summary
pub record IsMatch (cert : CertValue) (status : Status) (texts : Texts) : Type 0 where
  pub status_is : status ≡ s.Done
  pub puts : texts.puts ≡ []
  pub summary : texts.summary ≡ codes "match\n"

abbrev pub match_job : Match → Job
match_job asked = job CertValue (match_reads asked) IsMatch
