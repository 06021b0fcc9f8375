use Rattle.lat_top.proofs.CertPieces.{reads_head}
use Rattle.lat_top.proofs.cert_pieces.read_held_head.Goals as goal

pub returns : goal.returns
returns g c =
    let fed = c.in_ok-check.ensures in
    reads_head c.args.name.now _ _ fed.0 c.ended.result fed.1 (c.ended.ensures fed.0 fed.2)
