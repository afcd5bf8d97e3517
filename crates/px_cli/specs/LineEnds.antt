use Rattle.std.specs.Prelude.{ℕ, List, ◌++◌, codes}

-- a text and a line end
abbrev pub with_line_end : List ℕ → List ℕ
with_line_end text = text ++ codes "\n"
