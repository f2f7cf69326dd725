use Rattle.std.proofs.Common.{◌∙◌, ap}
use Rattle.nm_mime.specs.Roles.{is_attachment}
use Rattle.nm_mime.proofs.PartLemmas.{opening_made}
use Rattle.nm_mime.proofs.part_header.opening_from.Goals as goal

pub returns : goal.returns
returns c = opening_made c.args.entity c.args.rest c.args.content_type.now c.args.disposition.now c.args.encoding c.as_slice-params.result.now c.in_ok-kind.kind c.in_ok-value_text.field-0 c.in_ok-boundary.boundary c.as_str.result.now c.as_str-2.result.now c.is_attachment-attached.result c.in_ok-filename.field-0 c.fitting_role-role.result c.as_slice-params.ensures c.in_ok-kind.ensures c.in_ok-value_text.ensures c.in_ok-boundary.ensures c.as_str.ensures c.as_str-2.ensures (c.is_attachment-attached.ensures ∙ ap is_attachment c.as_bytes.ensures.value) c.in_ok-filename.ensures c.fitting_role-role.ensures
