use Rattle.std.proofs.Common.{◌≡◌, ◌++◌, List, [], ◌∷◌, ℕ, ap, ◌∙◌, append_assoc}
use Rattle.std.specs.Int.{w32, w64, to_be_bytes}
use Rattle.tca_report.specs.declared.report.Identity.{Identity}
use Rattle.tca_report.specs.declared.report.Content.{Content}
use Rattle.tca_report.proofs.export.writing.append_record.Goals as goal

-- what seven pieces in turn make
seven_pieces : (b b₁ b₂ b₃ b₄ b₅ b₆ b₇ p₁ p₂ p₃ p₄ p₅ p₆ p₇ : List ℕ) → b₁ ≡ b ++ p₁ → b₂ ≡ b₁ ++ p₂ → b₃ ≡ b₂ ++ p₃ → b₄ ≡ b₃ ++ p₄ → b₅ ≡ b₄ ++ p₅ → b₆ ≡ b₅ ++ p₆ → b₇ ≡ b₆ ++ p₇
    → b₇ ≡ b ++ (p₁ ++ (p₂ ++ (p₃ ++ (p₄ ++ (p₅ ++ (p₆ ++ p₇))))))
seven_pieces b b₁ b₂ b₃ b₄ b₅ b₆ b₇ p₁ p₂ p₃ p₄ p₅ p₆ p₇ e₁ e₂ e₃ e₄ e₅ e₆ e₇ = rw (e₇, e₆, e₅, e₄, e₃, e₂, e₁) (simp append_assoc)

pub returns : goal.returns
returns c =
    let content = c.content-content.ensures.value in
    let identity = c.identity-identity.ensures in
    let time = ap (λ (z : List ℕ). c.args.buffer.now.items ++ z) (c.to_be_bytes.ensures ∙ ap (λ (q : Content). to_be_bytes w64 q.time) content) in
    let domain = ap (λ (z : List ℕ). c.append.new.buffer.items ++ z) (c.to_be_bytes-2.ensures ∙ ap (λ (q : Identity). to_be_bytes w32 q.domain) identity) in
    let session = ap (λ (z : List ℕ). c.append-2.new.buffer.items ++ z) (c.to_be_bytes-3.ensures ∙ ap (λ (q : Identity). to_be_bytes w32 q.session) identity) in
    let place = ap (λ (z : List ℕ). c.append-3.new.buffer.items ++ z) (c.to_be_bytes-4.ensures ∙ ap (λ (q : Identity). to_be_bytes w32 q.place) identity) in
    let octets = ap (λ (z : List ℕ). c.append-4.new.buffer.items ++ z) (c.to_be_bytes-5.ensures ∙ ap (λ (q : Content). to_be_bytes w32 q.octets) content) in
    let dscp = ap (λ (q : Content). c.append-5.new.buffer.items ++ (q.dscp ∷ [])) content in
    let iface = ap (λ (z : List ℕ). c.append-6.new.buffer.items ++ z) (c.to_be_bytes-6.ensures ∙ ap (λ (q : Content). to_be_bytes w32 q.iface) content) in
    seven_pieces _ _ _ _ _ _ _ _ _ _ _ _ _ _ _ (c.append.ensures ∙ time) (c.append-2.ensures ∙ domain) (c.append-3.ensures ∙ session) (c.append-4.ensures ∙ place) (c.append-5.ensures ∙ octets) (c.append-6.ensures ∙ dscp) (c.append-7.ensures ∙ iface)
