use Rattle.std.proofs.Common.{ℕ, sym, ◌∙◌, subst, w64}
use Rattle.std.specs.Prelude.{Some}
use Rattle.std.specs.Int.{trailing_zeros}
use Rattle.memchr.specs.Find.{IsFirstByte}
use Rattle.field_groups.specs.Field.{is_soh}
use Rattle.field_groups.proofs.Marks.{compared, none_marked, first_marked}
use Rattle.field_groups.proofs.splitting.chunk_soh.Goals as goal

pub returns-then-marks-eq0 : goal.returns-then-marks-eq0
returns-then-marks-eq0 c =
    let bytes = c.args.bytes.now in
    let same = compared bytes c.requires in
    none_marked bytes c.requires (sym same ∙ c.if-marks-eq0.true)

pub returns-else-marks-eq0 : goal.returns-else-marks-eq0
returns-else-marks-eq0 c =
    let bytes = c.args.bytes.now in
    let same = compared bytes c.requires in
    subst (λ (m : ℕ). IsFirstByte is_soh bytes (Some (trailing_zeros w64 m))) (sym same)
    (first_marked bytes c.requires (λ none. c.if-marks-eq0.false (same ∙ none)))
