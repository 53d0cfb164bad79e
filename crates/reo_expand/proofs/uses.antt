mod Noting
mod Below
