mod Padding
mod Steps
