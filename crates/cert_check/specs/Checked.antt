-- What the check of a certificate answers.
use Rattle.std.specs.Prelude.{◌≡◌}
use Rattle.cert_types.specs.declared.checked.Checked.{Checked}
use Rattle.cert_types.specs.declared.checked.Checked.TheVariants.{Yes, No}
use Rattle.cert_types.specs.CertValue.{CertValue}
use Rattle.cert_types.specs.Holding.{CertHolds, IsCertFault}

-- yes, with its own verdict, where it holds; else its first fault
abbrev pub IsChecked : CertValue → Checked → Type 0
IsChecked cert (Yes verdict) = CertHolds cert × (verdict ≡ cert.verdict)
IsChecked cert (No part i) = IsCertFault cert part i
