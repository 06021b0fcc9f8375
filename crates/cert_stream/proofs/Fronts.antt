-- The front of a certificate is read exactly, and the rest behind it.
use Rattle.std.proofs.Common.{◌≡◌, ℕ, ◌≤◌, Bool, true, false, cond, eqb, List, [], ◌∷◌, ◌++◌, length, take, drop, Option, Some, None, refl, sym, ap, subst, ◌∙◌, append_assoc, arith, length-append}
use Rattle.std.specs.Str.{bytes_eq}
use Rattle.std.proofs.lemmas.List.{take_at, drop_at, take-append-drop}
use Rattle.std.proofs.lemmas.Option.{same_Some}
use Rattle.lat_base.specs.Shape.{target_count}
use Rattle.lat_ballots.specs.Deck.{Ballots}
use Rattle.close_rules.specs.declared.label.Label.{Label}
use Rattle.close_rules.specs.declared.reason.Reason.{Reason}
use Rattle.evade_space.specs.declared.skipped.Skipped.{Skipped}
use Rattle.tree_core.specs.declared.node.Node.{Node}
use Rattle.cert_fields.specs.Exact.{Exact}
use Rattle.cert_fields.specs.Head.{Head, head_text, IsHead, head_at}
use Rattle.cert_fields.specs.Reading.{◌>>=◌, Reader, u8_at, u16_at, pair_at, made_at}
use Rattle.cert_fields.specs.PartList.{part_at}
use Rattle.cert_fields.specs.Rows.{rows_at}
use Rattle.cert_fields.specs.Spelling.{u16_text}
use Rattle.cert_fields.specs.TreeReading.{tree_at}
use Rattle.cert_fields.proofs.Exact.{step, AnyOf, u16_exact, tested_exact, pair_exact}
use Rattle.cert_fields.proofs.Fields.{tagged_exact}
use Rattle.cert_fields.proofs.Heads.{head_exact, guard_then, is_same, is_true}
use Rattle.cert_fields.proofs.Tagged.{nothing_at, nothing, Always, nothing_exact, no_tag, one_tag, made_again}
use Rattle.cert_types.specs.declared.proved.Proved.{Proved}
use Rattle.cert_types.specs.declared.verdict.Verdict.{Verdict}
use Rattle.cert_types.specs.declared.verdict.Verdict.TheVariants.{Least, NoneWithin, Bounds}
use Rattle.cert_types.specs.Fitting.{IsVerdict, lower_size}
use Rattle.cert_types.specs.LowerPart.{LowerPart}
use Rattle.cert_format.specs.Fields.{verdict_text}
use Rattle.cert_format.specs.Files.{cert_magic}
use Rattle.cert_format.specs.Reading.{in_limits, limited_at, magic_at, verdict_by, verdict_at, CertBody, cert_body_at, deck_part_at, best_at, best_by, sized_at, proved_at, lower_part_at, lower_at, cert_parts_at, file_at}
use Rattle.cert_format.proofs.Bodies.{Limited, limits, within}
use Rattle.cert_stream.specs.Left.{Parts, whole_at, flagged_by, ballots_at, front_at, end_left, trees_at, deck_node_at, evade_node_at, lower_tree_left, lower_part_left, robust_left, rows_left, deck_left}
use Rattle.cert_stream.proofs.Settled.{Settles, settles}
use Rattle.cert_stream.proofs.Sizes.{head_size}

limited_exact : (least most : ℕ) → Exact (limited_at least most) (Limited least most) u16_text
limited_exact least most = tested_exact (in_limits least most) u16_at AnyOf u16_text u16_exact

verdict_exact : Exact verdict_at IsVerdict verdict_text
unfolding verdict_at
verdict_exact = tagged_exact verdict_by verdict_at IsVerdict verdict_text (λ _. refl) takes again
  where
    takes : (tag : ℕ) (bytes : List ℕ) (v : Verdict) (rest : List ℕ)
        → verdict_by tag bytes ≡ Some (v, rest)
        → IsVerdict v × (tag ∷ bytes ≡ verdict_text v ++ rest)
    takes tag bytes v rest =
        one_tag IsVerdict verdict_text tag bytes v rest 1 Least (limited_at 0 1024) (Limited 0 1024) u16_text (limited_exact 0 1024) (λ n f. ((limits 0 1024 n f.1).1, refl)) _ (
        one_tag IsVerdict verdict_text tag bytes v rest 2 NoneWithin (limited_at 1 1024) (Limited 1 1024) u16_text (limited_exact 1 1024) (λ n f. let l = limits 1 1024 n f.1 in ((l.0, l.1), refl)) _ (
        one_tag IsVerdict verdict_text tag bytes v rest 3 Bounds (limited_at 0 1024) (Limited 0 1024) u16_text (limited_exact 0 1024) (λ n f. ((limits 0 1024 n f.1).1, refl)) _ (
        no_tag IsVerdict verdict_text tag bytes v rest)))

    again : (v : Verdict) (rest : List ℕ) → IsVerdict v
        → (u8_at (verdict_text v ++ rest) >>= λ tag. verdict_by tag.0 tag.1) ≡ Some (v, rest)
    again (Least n) rest f = made_again Least (limited_at 0 1024) (Limited 0 1024) u16_text (limited_exact 0 1024) n rest (tt, within 0 1024 n (omega arith) f)
    again (NoneWithin n) rest f = made_again NoneWithin (limited_at 1 1024) (Limited 1 1024) u16_text (limited_exact 1 1024) n rest (tt, within 1 1024 n f.0 f.1)
    again (Bounds n) rest f = made_again Bounds (limited_at 0 1024) (Limited 0 1024) u16_text (limited_exact 0 1024) n rest (tt, within 0 1024 n (omega arith) f)

verdict_size : (v : Verdict) → length (verdict_text v) ≤ 3
verdict_size (Least k) = omega arith
verdict_size (NoneWithin m) = omega arith
verdict_size (Bounds f) = omega arith

-- ---- the number of ballots

abbrev flagged_text : Option ℕ → List ℕ
flagged_text None = 0 ∷ []
flagged_text (Some n) = 1 ∷ u16_text n

abbrev FlaggedFits : Option ℕ → Type 0
FlaggedFits None = Unit {0}
FlaggedFits (Some n) = Limited 0 1024 n

abbrev ballots_text : Verdict → Option ℕ → List ℕ
ballots_text (Least k) o = []
ballots_text (NoneWithin m) o = []
ballots_text (Bounds f) o = flagged_text o

abbrev BallotsFit : Verdict → Option ℕ → Type 0
BallotsFit (Least k) o = o ≡ Some k
BallotsFit (NoneWithin m) o = o ≡ None
BallotsFit (Bounds f) o = FlaggedFits o

-- a number that takes no byte
fixed_exact : (o : Option ℕ) → Exact (λ bytes. Some (o, bytes)) (λ v. v ≡ o) (λ _. [])
fixed_exact o = record {
  takes = λ bytes v rest e. subst (λ (w : Option ℕ × List ℕ). (w.0 ≡ o) × (bytes ≡ w.1)) (same_Some (o, bytes) (v, rest) e) (refl, refl);
  again = λ v rest f. ap (λ (w : Option ℕ). Some (w, rest)) (sym f);
}

ballots_exact : (v : Verdict) → Exact (ballots_at v) (BallotsFit v) (ballots_text v)
ballots_exact (Least k) = fixed_exact (Some k)
ballots_exact (NoneWithin m) = fixed_exact None
ballots_exact (Bounds f) = tagged_exact flagged_by (ballots_at (Bounds f)) FlaggedFits flagged_text (λ _. refl) takes again
  where
    takes : (tag : ℕ) (bytes : List ℕ) (v : Option ℕ) (rest : List ℕ)
        → flagged_by tag bytes ≡ Some (v, rest)
        → FlaggedFits v × (tag ∷ bytes ≡ flagged_text v ++ rest)
    takes tag bytes v rest =
        one_tag FlaggedFits flagged_text tag bytes v rest 0 (λ _. None) nothing_at Always nothing nothing_exact (λ _ _. (tt, refl)) _ (
        one_tag FlaggedFits flagged_text tag bytes v rest 1 Some (limited_at 0 1024) (Limited 0 1024) u16_text (limited_exact 0 1024) (λ n f. (f, refl)) _ (
        no_tag FlaggedFits flagged_text tag bytes v rest))

    again : (v : Option ℕ) (rest : List ℕ) → FlaggedFits v
        → (u8_at (flagged_text v ++ rest) >>= λ tag. flagged_by tag.0 tag.1) ≡ Some (v, rest)
    again None rest f = refl
    again (Some n) rest f = made_again Some (limited_at 0 1024) (Limited 0 1024) u16_text (limited_exact 0 1024) n rest f

ballots_size : (v : Verdict) (o : Option ℕ) → length (ballots_text v o) ≤ 3
ballots_size (Least k) o = omega arith
ballots_size (NoneWithin m) o = omega arith
ballots_size (Bounds f) None = omega arith
ballots_size (Bounds f) (Some n) = omega arith

-- ---- the front

abbrev pub Front : Type 0
Front = (Head × Verdict) × Option ℕ

abbrev behind_magic : Reader Front
behind_magic = pair_at (pair_at head_at (λ _. verdict_at)) (λ v. ballots_at v.1)

abbrev FrontFits : Front → Type 0
FrontFits v = (IsHead v.0.0 × IsVerdict v.0.1) × BallotsFit v.0.1 v.1

abbrev behind_text : Front → List ℕ
behind_text v = (head_text v.0.0 ++ verdict_text v.0.1) ++ ballots_text v.0.1 v.1

behind_exact : Exact behind_magic FrontFits behind_text
behind_exact =
    pair_exact (pair_at head_at (λ _. verdict_at)) (λ v. ballots_at v.1) (λ v. IsHead v.0 × IsVerdict v.1) (λ v. BallotsFit v.1) (λ v. head_text v.0 ++ verdict_text v.1) (λ v. ballots_text v.1)
    (pair_exact head_at (λ _. verdict_at) IsHead (λ _. IsVerdict) head_text (λ _. verdict_text) head_exact (λ _. verdict_exact)) (λ v. ballots_exact v.1)

magic_again : (magic bytes : List ℕ) → length magic ≡ 8
    → magic_at magic (magic ++ bytes) ≡ Some bytes
magic_again magic bytes eight =
    let same : bytes_eq (take 8 (magic ++ bytes)) magic ≡ true = is_true _ _ (take_at magic bytes 8 eight) in
    rw (same, drop_at magic bytes 8 eight) refl

front_exact : Exact front_at FrontFits (λ v. cert_magic ++ behind_text v)
unfolding front_at
front_exact = record {
  takes = λ bytes v rest e.
      let a = step (magic_at cert_magic bytes) behind_magic (v, rest) e in
      let m = guard_then (bytes_eq (take 8 bytes) cert_magic) (drop 8 bytes) a.0 a.1 in
      let h = behind_exact.takes a.0 v rest a.2 in
      let front : bytes ≡ cert_magic ++ a.0 = sym (take-append-drop 8 bytes) ∙ ap (λ (r : List ℕ). r ++ drop 8 bytes) (is_same _ _ m.0) ∙ ap (λ (r : List ℕ). cert_magic ++ r) m.1 in
      (h.0, front ∙ ap (λ (r : List ℕ). cert_magic ++ r) h.1 ∙ sym (append_assoc cert_magic (behind_text v) rest));
  again = λ v rest f.
      let all = behind_text v ++ rest in
      ap front_at (append_assoc cert_magic (behind_text v) rest) ∙ ap (λ (o : Option (List ℕ)). o >>= behind_magic) (magic_again cert_magic all refl) ∙ behind_exact.again v rest f;
}

pub front_settles : Settles 8 25560 front_at
front_settles = settles front_at FrontFits (λ v. cert_magic ++ behind_text v) 8 25560 front_exact sizes
  where
    sizes : (v : Front) → FrontFits v
        → (8 ≤ length (cert_magic ++ behind_text v))
        × (length (cert_magic ++ behind_text v) ≤ 25560)
    sizes v f =
        let all = length-append cert_magic (behind_text v) in
        (omega (arith, all), omega (arith, all, length-append (head_text v.0.0 ++ verdict_text v.0.1) (ballots_text v.0.1 v.1), length-append (head_text v.0.0) (verdict_text v.0.1), head_size v.0.0 f.0.0, verdict_size v.0.1, ballots_size v.0.1 v.1))

-- ---- what is read behind it

abbrev fin : Parts → List ℕ → Option Parts
fin p bytes = cond (eqb (length bytes) 0) (Some p) None

abbrev Rows : Type 0
Rows = List (List Bool)

abbrev Nodes : Type 0
Nodes = List (Node ℕ Skipped)

module _ (head : Head) (verdict : Verdict) where
  abbrev lower_then : Option Proved → Option (Option LowerPart × List ℕ) → Option Parts
  lower_then proved o = o >>= λ l. fin (head, ((verdict, proved), l.0)) l.1

  lower_is : (proved : Option Proved) (size : Option ℕ) (bytes : List ℕ)
      → lower_then proved (lower_part_at head.contests size bytes)
      ≡ lower_part_left head verdict proved size bytes
  unfolding lower_part_at lower_at tree_at
  lower_is proved None bytes = refl
  lower_is proved (Some size) bytes = by_part (part_at (length head.contests) bytes)
    where
      by_tree : (chosen : List ℕ) (o : Option (List (Node Label Reason) × List ℕ))
          → lower_then proved (made_at Some (made_at (λ (p : List ℕ × List (Node Label Reason)). record { contests = p.0; size = size; tree = p.1 }) (λ _. o >>= λ b. Some ((chosen, b.0), b.1))) bytes)
          ≡ (o >>= λ t. end_left head verdict proved (Some (record { contests = chosen; size = size; tree = t.0 })) t.1)
      by_tree chosen None = refl
      by_tree chosen (Some t) = refl

      by_part : (o : Option (List ℕ × List ℕ))
          → lower_then proved (made_at Some (made_at (λ (p : List ℕ × List (Node Label Reason)). record { contests = p.0; size = size; tree = p.1 }) (λ _. o >>= λ a. trees_at deck_node_at 1 a.1 >>= λ b. Some ((a.0, b.0), b.1))) bytes)
          ≡ (o >>= λ c. lower_tree_left head verdict proved c.0 size [] 1 c.1)
      by_part None = refl
      by_part (Some c) = by_tree c.0 (trees_at deck_node_at 1 c.1)

  abbrev deck_then : Option (Option Proved × List ℕ) → Option Parts
  deck_then o = o >>= λ p. lower_then p.0 (lower_part_at head.contests (lower_size verdict) p.1)

  abbrev made : List ℕ → Option ((Rows × Nodes) × List ℕ) → Option Parts
  made bytes o = deck_then (made_at Some (made_at (λ (p : Ballots × Nodes). record { deck = p.0; robust = p.1 })
      (made_at (λ (p : Rows × Nodes). (record { targets = target_count head.contests; ballots = p.0 }, p.1)) (λ _. o))) bytes)

  proved_is : (k : ℕ) (bytes : List ℕ)
      → deck_then (made_at Some (proved_at (target_count head.contests) k) bytes)
      ≡ rows_left head verdict [] k bytes
  unfolding proved_at tree_at
  proved_is k bytes = by_rows (rows_at (target_count head.contests) k bytes)
    where
      by_tree : (rows : Rows) (o : Option (Nodes × List ℕ))
          → made bytes (o >>= λ b. Some ((rows, b.0), b.1))
          ≡ (o >>= λ t. lower_part_left head verdict (Some (record { deck = record { targets = target_count head.contests; ballots = rows }; robust = t.0 })) (lower_size verdict) t.1)
      by_tree rows None = refl
      by_tree rows (Some t) = lower_is (Some (record { deck = record { targets = target_count head.contests; ballots = rows }; robust = t.0 })) (lower_size verdict) t.1

      by_rows : (o : Option (Rows × List ℕ))
          → made bytes (o >>= λ a. trees_at evade_node_at 1 a.1 >>= λ b. Some ((a.0, b.0), b.1))
          ≡ (o >>= λ d. robust_left head verdict (record { targets = target_count head.contests; ballots = d.0 }) [] 1 d.1)
      by_rows None = refl
      by_rows (Some d) = by_tree d.0 (trees_at evade_node_at 1 d.1)

  best_is : (tag : ℕ) (bytes : List ℕ)
      → deck_then (best_by (target_count head.contests) tag bytes)
      ≡ (flagged_by tag bytes >>= λ k. deck_left head verdict k.0 k.1)
  unfolding sized_at
  best_is tag bytes = by_flag (eqb tag 0) (eqb tag 1)
    where
      by_number : (o : Option (ℕ × List ℕ))
          → deck_then
          (made_at Some (made_at (λ (p : ℕ × Proved). p.1)
          (λ _. o >>= λ a. proved_at (target_count head.contests) a.0 a.1 >>= λ b. Some
          ((a.0, b.0), b.1))) bytes)
          ≡ (made_at Some (λ _. o) bytes >>= λ k. deck_left head verdict k.0 k.1)
      by_number None = refl
      by_number (Some n) = by_deck (proved_at (target_count head.contests) n.0 n.1) ∙ proved_is n.0 n.1
        where
          by_deck : (o : Option (Proved × List ℕ))
              → deck_then
              (made_at Some (made_at (λ (p : ℕ × Proved). p.1)
              (λ _. o >>= λ b. Some ((n.0, b.0), b.1))) bytes)
              ≡ deck_then (made_at Some (λ _. o) n.1)
          by_deck None = refl
          by_deck (Some p) = refl

      by_flag : (a b : Bool) → deck_then
          (cond a (Some (None, bytes)) (cond b
          (made_at Some (sized_at (target_count head.contests)) bytes) None))
          ≡ (cond a (Some (None, bytes)) (cond b (made_at Some (limited_at 0 1024) bytes) None) >>= λ k. deck_left head verdict k.0 k.1)
      by_flag true b = lower_is None (lower_size verdict) bytes
      by_flag false true = by_number (limited_at 0 1024 bytes)
      by_flag false false = refl

deck_is : (head : Head) (verdict : Verdict) (bytes : List ℕ)
    → deck_then head verdict (deck_part_at (target_count head.contests) verdict bytes)
    ≡ (ballots_at verdict bytes >>= λ k. deck_left head verdict k.0 k.1)
unfolding deck_part_at best_at
deck_is head (Least k) bytes = proved_is head (Least k) k bytes
deck_is head (NoneWithin m) bytes = lower_is head (NoneWithin m) None (Some m) bytes
deck_is head (Bounds f) bytes = by_tag (u8_at bytes)
  where
    by_tag : (o : Option (ℕ × List ℕ))
        → deck_then head (Bounds f) (o >>= λ tag. best_by (target_count head.contests) tag.0 tag.1)
        ≡ ((o >>= λ tag. flagged_by tag.0 tag.1) >>= λ k. deck_left head (Bounds f) k.0 k.1)
    by_tag None = refl
    by_tag (Some tag) = best_is head (Bounds f) tag.0 tag.1

abbrev ended : Option (Parts × List ℕ) → Option Parts
ended o = o >>= λ x. fin x.0 x.1

abbrev left : Option (Front × List ℕ) → Option Parts
left o = o >>= λ f. deck_left f.0.0.0 f.0.0.1 f.0.1 f.1

-- a value, and the one that was read behind it
abbrev joined : {A B : Type 0} → A → Option (B × List ℕ) → Option ((A × B) × List ℕ)
joined a o = o >>= λ b. Some ((a, b.0), b.1)

abbrev Deck : Type 0
Deck = Verdict × Option Proved

-- a certificate is its front, and what is read behind it
pub whole_is : (bytes : List ℕ) → whole_at bytes ≡ left (front_at bytes)
unfolding file_at cert_body_at front_at
whole_is bytes = by_magic (magic_at cert_magic bytes)
  where
    by_lower : (head : Head) (deck : Deck) (o : Option (Option LowerPart × List ℕ))
        → ended (joined {A = Head} {B = CertBody} head (joined {A = Deck} {B = Option LowerPart} deck o)) ≡ lower_then head deck.0 deck.1 o
    by_lower head deck None = refl
    by_lower head deck (Some l) = refl

    by_deck : (head : Head) (verdict : Verdict) (o : Option (Option Proved × List ℕ))
        → ended (joined {A = Head} {B = CertBody} head (joined {A = Verdict} {B = Option Proved} verdict o >>= λ a. joined {A = Deck} {B = Option LowerPart} a.0 (lower_part_at head.contests (lower_size a.0.0) a.1))) ≡ deck_then head verdict o
    by_deck head verdict None = refl
    by_deck head verdict (Some p) = by_lower head (verdict, p.0) (lower_part_at head.contests (lower_size verdict) p.1)

    by_ballots : (head : Head) (verdict : Verdict) (o : Option (Option ℕ × List ℕ))
        → (o >>= λ k. deck_left head verdict k.0 k.1) ≡ left (joined {A = Head × Verdict} {B = Option ℕ} (head, verdict) o)
    by_ballots head verdict None = refl
    by_ballots head verdict (Some k) = refl

    by_verdict : (head : Head) (o : Option (Verdict × List ℕ))
        → ended (joined {A = Head} {B = CertBody} head ((o >>= λ v. joined {A = Verdict} {B = Option Proved} v.0 (deck_part_at (target_count head.contests) v.0 v.1)) >>= λ a. joined {A = Deck} {B = Option LowerPart} a.0 (lower_part_at head.contests (lower_size a.0.0) a.1)))
        ≡ left (joined {A = Head} {B = Verdict} head o >>= λ a. joined {A = Head × Verdict} {B = Option ℕ} a.0 (ballots_at a.0.1 a.1))
    by_verdict head None = refl
    by_verdict head (Some v) = by_deck head v.0 (deck_part_at (target_count head.contests) v.0 v.1) ∙ deck_is head v.0 v.1 ∙ by_ballots head v.0 (ballots_at v.0 v.1)

    by_head : (o : Option (Head × List ℕ))
        → ended (o >>= λ a. joined {A = Head} {B = CertBody} a.0 (cert_body_at a.0.contests a.1))
        ≡ left ((o >>= λ a. joined {A = Head} {B = Verdict} a.0 (verdict_at a.1)) >>= λ a. joined {A = Head × Verdict} {B = Option ℕ} a.0 (ballots_at a.0.1 a.1))
    by_head None = refl
    by_head (Some h) = by_verdict h.0 (verdict_at h.1)

    by_magic : (o : Option (List ℕ))
        → (o >>= λ rest. ended (cert_parts_at rest)) ≡ left (o >>= behind_magic)
    by_magic None = refl
    by_magic (Some rest) = by_head (head_at rest)
