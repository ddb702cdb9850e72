-- What a tree's nodes are does not hang on the variables that come after it, and neither does that it is sound.
use Rattle.std.proofs.Common.{◌≡◌, ℕ, suc, ◌-◌, ◌≤◌, Bool, true, false, cond, ◌||◌, List, [], ◌∷◌, ◌++◌, length, refl, ap, arith}
use Rattle.std.specs.Str.{bytes_eq}
use Rattle.lexer.specs.Names.{Name}
use Rattle.script.specs.Reading.{among}
use Rattle.script.specs.Trees.{Step, Expr, number, access, has, binary, Statement, assign, write, cut, say, branch, loop, Block, done, next}
use Rattle.parser.specs.Code.{held, steps_code, path_code, expression_code, statement_code, block_code, SoundPath, Sound, Low, Fine, SoundStatement, SoundBlock}
use Rattle.parser.specs.Numbering.{index_of}
use Rattle.parser.specs.declared.node.Node.TheVariants as node

-- a stack that is larger suffices too
pub low_more : {m n : ℕ} → m ≤ n → (e : Expr) → Low m e → Low n e
low_more h (number k) low = omega arith
low_more h (access v ss) low = omega arith
low_more h (has v ss) low = omega arith
low_more {m} {n} h (binary o at a b) low = (low_more h a low.0, low_more {m = m - 1} {n = n - 1} (omega arith) b low.1)

-- a variable keeps its number
known_more : (vs more : List Name) (n : Name) → among vs n ≡ true → (among (vs ++ more) n ≡ true) × (index_of (vs ++ more) n ≡ index_of vs n)
unfolding index_of
known_more [] more n e = cc
known_more (v ∷ vs) more n e = go (bytes_eq v n) (known_more vs more n) e
  where
    go : (b : Bool) → (among vs n ≡ true → (among (vs ++ more) n ≡ true) × (index_of (vs ++ more) n ≡ index_of vs n)) → (b || among vs n) ≡ true → ((b || among (vs ++ more) n) ≡ true) × (cond b 0 (suc (index_of (vs ++ more) n)) ≡ cond b 0 (suc (index_of vs n)))
    go true later k = (refl, refl)
    go false later k = let rest = later k in (rest.0, ap suc rest.1)

module _ (text : List ℕ) (vs more : List Name) where
  path_sound : (v : Name) (ss : List Step) → SoundPath text vs v ss → SoundPath text (vs ++ more) v ss
  path_sound v ss h = ((known_more vs more v h.0).0, h.1)

  path_same : (v : Name) (ss : List Step) → SoundPath text vs v ss → path_code (vs ++ more) v ss ≡ path_code vs v ss
  path_same v ss h = ap (λ i. node.Variable i ∷ steps_code ss) (known_more vs more v h.0).1

  pub sound_more : (e : Expr) → Sound text vs e → Sound text (vs ++ more) e
  sound_more (number n) h = tt
  sound_more (access v ss) h = path_sound v ss h
  sound_more (has v ss) h = path_sound v ss h
  sound_more (binary o at a b) h = (sound_more a h.0, sound_more b h.1)

  pub code_same : (e : Expr) → Sound text vs e → expression_code (vs ++ more) e ≡ expression_code vs e
  unfolding expression_code
  code_same (number n) h = refl
  code_same (access v ss) h = path_same v ss h
  code_same (has v ss) h = ap (λ c. c ++ (node.Has ∷ [])) (path_same v ss h)
  code_same (binary o at a b) h = (λ i. code_same a h.0 i ++ (code_same b h.1 i ++ (node.Binary (held o) at ∷ [])))

  fine_more : (e : Expr) → Fine text vs e → Fine text (vs ++ more) e
  fine_more e h = (sound_more e h.0, h.1)

  mutual
    pub statement_sound_more : (s : Statement) → SoundStatement text vs s → SoundStatement text (vs ++ more) s
    statement_sound_more (assign v e) h = ((known_more vs more v h.0).0, fine_more e h.1)
    statement_sound_more (write v ss e) h = (path_sound v ss h.0, h.1, fine_more e h.2)
    statement_sound_more (cut v ss) h = (path_sound v ss h.0, h.1)
    statement_sound_more (say at e) h = fine_more e h
    statement_sound_more (branch at e b c) h = (fine_more e h.0, block_sound_more b h.1, block_sound_more c h.2)
    statement_sound_more (loop at e b) h = (fine_more e h.0, block_sound_more b h.1)

    pub block_sound_more : (b : Block) → SoundBlock text vs b → SoundBlock text (vs ++ more) b
    block_sound_more done h = tt
    block_sound_more (next s b) h = (statement_sound_more s h.0, block_sound_more b h.1)

  mutual
    unfolding statement_code block_code

    pub statement_same : (s : Statement) → SoundStatement text vs s → statement_code (vs ++ more) s ≡ statement_code vs s
    statement_same (assign v e) h = (λ i. node.Assign (length (code_same e h.1.0 i)) ∷ (path_same v [] (h.0, tt) i ++ code_same e h.1.0 i))
    statement_same (write v ss e) h = (λ i. node.Write (length ss) (length (code_same e h.2.0 i)) ∷ (path_same v ss h.0 i ++ code_same e h.2.0 i))
    statement_same (cut v ss) h = ap (λ c. node.Cut (length ss) ∷ c) (path_same v ss h.0)
    statement_same (say at e) h = ap (λ c. node.Say at (length c) ∷ c) (code_same e h.0)
    statement_same (branch at e b c) h =
        (λ i. node.If at (length (code_same e h.0.0 i)) (length (block_same b h.1 i)) (length (block_same c h.2 i)) ∷ (code_same e h.0.0 i ++ (block_same b h.1 i ++ block_same c h.2 i)))
    statement_same (loop at e b) h =
        (λ i. node.While at (length (code_same e h.0.0 i)) (length (block_same b h.1 i)) ∷ (code_same e h.0.0 i ++ block_same b h.1 i))

    pub block_same : (b : Block) → SoundBlock text vs b → block_code (vs ++ more) b ≡ block_code vs b
    block_same done h = refl
    block_same (next s b) h = (λ i. statement_same s h.0 i ++ block_same b h.1 i)
